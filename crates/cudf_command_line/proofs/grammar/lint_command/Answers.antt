use Rattle.std.proofs.Common.{◌∷◌, [], List, subst, sym}
use Rattle.std.specs.List.{AllZip}
use Rattle.clap.specs.declared.builder.arg.Arg.{Arg}
use Rattle.cudf_command_line.specs.Grammar.{IsArgument, explain_flag, filename_flag, problem_word, strict_flag}
use Rattle.cudf_command_line.proofs.grammar.lint_command.Goals as goal

pub returns : goal.returns
returns c =
    c.new_command.ensures _ (subst (λ (words : List Arg). AllZip IsArgument words (problem_word ∷ strict_flag ∷ explain_flag ∷ filename_flag ∷ [])) (sym c.in_ok-arguments.ensures.items)
    ((c.problem.ensures.rule, c.problem.ensures.local), ((c.strict.ensures.rule, c.strict.ensures.local), ((c.explain.ensures.rule, c.explain.ensures.local), ((c.with_filename.ensures.rule, c.with_filename.ensures.local), tt)))))
