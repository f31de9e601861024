use Rattle.std.proofs.Common.{◌∷◌, [], List, subst, sym}
use Rattle.std.specs.List.{AllZip}
use Rattle.clap.specs.declared.builder.arg.Arg.{Arg}
use Rattle.cudf_command_line.specs.Grammar.{IsArgument, filename_flag, needed_criteria, problem_word, solutions_word, strict_flag}
use Rattle.cudf_command_line.proofs.grammar.rank_command.Goals as goal

pub returns : goal.returns
returns c =
    c.new_command.ensures _ (subst (λ (words : List Arg). AllZip IsArgument words (problem_word ∷ solutions_word ∷ needed_criteria ∷ strict_flag ∷ filename_flag ∷ [])) (sym c.in_ok-arguments.ensures.items)
    ((c.problem.ensures.rule, c.problem.ensures.local), ((c.solutions.ensures.rule, c.solutions.ensures.local), ((c.needed_criteria.ensures.rule, c.needed_criteria.ensures.local), ((c.strict.ensures.rule, c.strict.ensures.local), ((c.with_filename.ensures.rule, c.with_filename.ensures.local), tt))))))
