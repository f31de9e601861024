use Rattle.std.proofs.Common.{inl, inr, option_map}
use Rattle.cudf_device.specs.Readers.{change}
use Rattle.cudf_program.specs.Inputs.{IsOfFiles, left_of}
use Rattle.cudf_program.proofs.FileLemmas.{done, told}
use Rattle.cudf_program.proofs.carry_out.Goals as goal

pub returns-in-Ok : goal.returns-in-Ok
returns-in-Ok g c =
    inl (done (g.R.System.opens c.args.rt.now) (option_map g.S.Read.remaining c.args.standard) (left_of g.R.File.Read.remaining g.S.Read.remaining) c.args.order c.in-Ok.task
    (change g.W.Sink.state c.args.out.now c.run_task.new.out) c.run_task.result
    c.in-Ok.ensures.order c.in-Ok.ensures.problem c.in-Ok.ensures.others c.in-Ok.ensures.named c.run_task.ensures)

pub returns-in-Err : goal.returns-in-Err
returns-in-Err g c =
    inr (told g.W.Sink.state (IsOfFiles (g.R.System.opens c.args.rt.now) c.args.order) c.in-Err.failure c.args.out.now c.report_failure.new.out c.report_failure.result
    c.in-Err.ensures.failed c.report_failure.ensures.status c.report_failure.ensures.printed c.report_failure.ensures.quiet)
