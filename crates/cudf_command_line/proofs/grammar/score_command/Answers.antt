use Rattle.std.proofs.Common.{◌∷◌, [], List, subst, sym}
use Rattle.std.specs.List.{AllZip}
use Rattle.clap.specs.declared.builder.arg.Arg.{Arg}
use Rattle.cudf_command_line.specs.Grammar.{IsArgument, criteria_option, filename_flag, problem_word, solution_word, strict_flag}
use Rattle.cudf_command_line.proofs.grammar.score_command.Goals as goal

pub returns : goal.returns
returns c =
    c.new_command.ensures _ (subst (λ (words : List Arg). AllZip IsArgument words (problem_word ∷ solution_word ∷ criteria_option ∷ strict_flag ∷ filename_flag ∷ [])) (sym c.in_ok-arguments.ensures.items)
    ((c.problem.ensures.rule, c.problem.ensures.local), ((c.solution.ensures.rule, c.solution.ensures.local), ((c.criteria.ensures.rule, c.criteria.ensures.local), ((c.strict.ensures.rule, c.strict.ensures.local), ((c.with_filename.ensures.rule, c.with_filename.ensures.local), tt))))))
