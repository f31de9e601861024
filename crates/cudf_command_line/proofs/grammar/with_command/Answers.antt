use Rattle.std.proofs.Common.{IfOk, Result, subst}
use Rattle.std.specs.declared.alloc.AllocError.{AllocError}
use Rattle.std.proofs.lemmas.Result.{IfOk-weaker}
use Rattle.clap.specs.declared.builder.command.Command.{Command}
use Rattle.cudf_command_line.specs.Grammar.{IsOf}
use Rattle.cudf_command_line.proofs.GrammarLemmas.{adds_command}
use Rattle.cudf_command_line.proofs.grammar.with_command.Goals as goal

pub returns : goal.returns
returns c = λ app sub of_app of_sub.
    let is_sub : IsOf sub c.in_ok-command.field-0 = subst (λ (r : Result Command AllocError). IfOk r (IsOf sub)) c.in_ok-command.was of_sub in
    IfOk-weaker c.subcommand.result _ _ (adds_command app sub c.args.program c.in_ok-command.field-0 of_app is_sub) c.subcommand.ensures
