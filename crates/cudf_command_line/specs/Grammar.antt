-- The grammar of the command line: the commands, the words that each takes, and its options.
use Rattle.std.specs.Prelude.{◌≡◌, List, [], ◌∷◌, true, false, codes, Some}
use Rattle.clap.specs.Words.{App, Rule, app_of, new_app, new_rule, rule_of, with_rule, with_subcommand}
use Rattle.clap.specs.Lexer.{usize_max}
use Rattle.clap.specs.Simple.{new_shape}
use Rattle.clap.specs.declared.builder.action.ArgAction.TheVariants.{SetTrue}
use Rattle.clap.specs.declared.builder.arg.Arg.{Arg}
use Rattle.clap.specs.declared.builder.command.Command.{Command}
use Rattle.clap.specs.declared.builder.command.Command.TheViews.{out-Command}

-- the file of the problem, which has to be named
abbrev pub problem_word : Rule
problem_word = record (new_rule (codes "problem")) { value_names = 1; required = true }

-- the file of the solution
abbrev pub solution_word : Rule
solution_word = record (new_rule (codes "solution")) { value_names = 1 }

-- the files of the solutions, one at least
abbrev pub solutions_word : Rule
solutions_word = record (new_rule (codes "solutions")) {
  value_names = 1;
  range = Some (record { start_inclusive = 1; end_inclusive = usize_max });
  required = true;
}

-- the file of a proof, which has to be named
abbrev pub proof_word : Rule
proof_word = record (new_rule (codes "proof")) { value_names = 1; required = true }

-- `--after KEY`
abbrev pub after_option : Rule
after_option = record (new_rule (codes "after")) { long = Some (codes "after"); value_names = 1 }

-- `--limit N`
abbrev pub limit_option : Rule
limit_option = record (new_rule (codes "limit")) { long = Some (codes "limit"); value_names = 1 }

-- `--better-than S`
abbrev pub better_option : Rule
better_option = record (new_rule (codes "better-than")) { long = Some (codes "better-than"); value_names = 1 }

-- `--criteria=LIST`
abbrev pub criteria_option : Rule
criteria_option = record (new_rule (codes "criteria")) { long = Some (codes "criteria"); value_names = 1 }

-- `--criteria=LIST`, which has to be given
abbrev pub needed_criteria : Rule
needed_criteria = record criteria_option { required = true }

-- `--strict`
abbrev pub strict_flag : Rule
strict_flag = record (new_rule (codes "strict")) { long = Some (codes "strict"); action = Some SetTrue }

-- `--explain`
abbrev pub explain_flag : Rule
explain_flag = record (new_rule (codes "explain")) { long = Some (codes "explain"); action = Some SetTrue }

-- `--with-filename`, `-H`
abbrev pub filename_flag : Rule
filename_flag = record (new_rule (codes "with-filename")) { short = Some 72; long = Some (codes "with-filename"); action = Some SetTrue }

-- an app with more rules
abbrev pub with_rules : App → List Rule → App
with_rules app [] = app
with_rules app (rule ∷ rules) = with_rules (with_rule app rule) rules

abbrev pub lint_grammar : App
lint_grammar = with_rules (new_app (codes "lint")) (problem_word ∷ strict_flag ∷ explain_flag ∷ filename_flag ∷ [])

abbrev pub check_grammar : App
check_grammar = with_rules (new_app (codes "check")) (problem_word ∷ solution_word ∷ after_option ∷ limit_option ∷ strict_flag ∷ explain_flag ∷ filename_flag ∷ [])

abbrev pub score_grammar : App
score_grammar = with_rules (new_app (codes "score")) (problem_word ∷ solution_word ∷ criteria_option ∷ strict_flag ∷ filename_flag ∷ [])

abbrev pub rank_grammar : App
rank_grammar = with_rules (new_app (codes "rank")) (problem_word ∷ solutions_word ∷ needed_criteria ∷ strict_flag ∷ filename_flag ∷ [])

abbrev pub cnf_grammar : App
cnf_grammar = with_rules (new_app (codes "cnf")) (problem_word ∷ better_option ∷ criteria_option ∷ strict_flag ∷ [])

abbrev pub refute_grammar : App
refute_grammar = with_rules (new_app (codes "refute")) (problem_word ∷ proof_word ∷ better_option ∷ criteria_option ∷ strict_flag ∷ explain_flag ∷ [])

-- the program has a version, and one of its commands has to be named
abbrev pub plain_grammar : App
plain_grammar = record {
  top = record (new_shape (codes "cudf_check")) { has_version = true; subcommand_required = true };
  subs = [];
}

abbrev pub grammar : App
grammar = with_subcommand (with_subcommand (with_subcommand (with_subcommand (with_subcommand (with_subcommand plain_grammar lint_grammar.top) check_grammar.top) score_grammar.top) rank_grammar.top) cnf_grammar.top) refute_grammar.top

-- the command is of this grammar, and no argument of it is one of other commands too
abbrev pub IsOf : App → Command → Type 0
IsOf app command = (app_of command ≡ app) × ((out-Command command).has_globals ≡ false)

-- the argument has this rule, and isn't one of other commands too
abbrev pub IsArgument : Arg → Rule → Type 0
IsArgument argument rule = (rule_of argument ≡ rule) × (argument.global ≡ false)
