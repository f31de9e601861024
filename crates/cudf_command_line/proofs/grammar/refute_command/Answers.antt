use Rattle.std.proofs.Common.{◌∷◌, [], List, subst, sym}
use Rattle.std.specs.List.{AllZip}
use Rattle.clap.specs.declared.builder.arg.Arg.{Arg}
use Rattle.cudf_command_line.specs.Grammar.{IsArgument, better_option, criteria_option, explain_flag, problem_word, proof_word, strict_flag}
use Rattle.cudf_command_line.proofs.grammar.refute_command.Goals as goal

pub returns : goal.returns
returns c =
    c.new_command.ensures _ (subst (λ (words : List Arg). AllZip IsArgument words (problem_word ∷ proof_word ∷ better_option ∷ criteria_option ∷ strict_flag ∷ explain_flag ∷ [])) (sym c.in_ok-arguments.ensures.items)
    ((c.problem.ensures.rule, c.problem.ensures.local), ((c.proof.ensures.rule, c.proof.ensures.local), ((c.better_than.ensures.rule, c.better_than.ensures.local), ((c.compared.ensures.rule, c.compared.ensures.local), ((c.strict.ensures.rule, c.strict.ensures.local), ((c.explain.ensures.rule, c.explain.ensures.local), tt)))))))
