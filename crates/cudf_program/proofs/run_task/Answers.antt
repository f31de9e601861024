use Rattle.std.proofs.Common.{◌∙◌, ap, map, subst, sym}
use Rattle.cudf_device.specs.Promises.DeviceInside.{source_state}
use Rattle.cudf_device.specs.Promises.NamedInside.{name_of, named_state}
use Rattle.cudf_device.specs.Readers.{change}
use Rattle.cudf_program.specs.Failure.{answer_status}
use Rattle.cudf_program.specs.Inputs.{bytes_left, left_of}
use Rattle.cudf_program.specs.Program.{Did}
use Rattle.cudf_program.proofs.FileLemmas.{did}
use Rattle.cudf_program.proofs.run_task.Goals as goal

pub returns-in-Ok : goal.returns-in-Ok
returns-in-Ok g c =
    let left = left_of g.F.Read.remaining g.S.Read.remaining in
    let state = named_state (source_state (bytes_left g.F.Read.remaining g.S.Read.remaining)) in
    let out = change g.W.Sink.state c.args.out.now c.run.new.out in
    let task = c.args.task in
    record {
      answer = c.run.result;
      did = subst (λ readers. Did task.order.job task.order.mode (record { first = name_of task.problem; others = map name_of readers }) (left task.problem) (map left readers) out c.run.result) c.deref_mut.ensures.value
          (did state task.order.job task.order.mode (change state task.problem c.run.new.first) c.deref_mut.result.now c.run.new.others c.run.auto.others out c.run.result c.run.ensures.runs);
      status_is = c.status.ensures ∙ ap answer_status (sym c.in-Ok.is);
    }

pub returns : goal.returns
returns g c =
    let left = left_of g.F.Read.remaining g.S.Read.remaining in
    let state = named_state (source_state (bytes_left g.F.Read.remaining g.S.Read.remaining)) in
    let out = change g.W.Sink.state c.args.out.now c.run.new.out in
    let task = c.args.task in
    record {
      answer = c.run.result;
      did = subst (λ readers. Did task.order.job task.order.mode (record { first = name_of task.problem; others = map name_of readers }) (left task.problem) (map left readers) out c.run.result) c.deref_mut.ensures.value
          (did state task.order.job task.order.mode (change state task.problem c.run.new.first) c.deref_mut.result.now c.run.new.others c.run.auto.others out c.run.result c.run.ensures.runs);
      status_is = c.status-in-Err.ensures ∙ ap answer_status (sym c.in-Err.is);
    }
