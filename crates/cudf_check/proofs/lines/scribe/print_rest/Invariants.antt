-- The lines so far are printed, and the walk has gone to them.
use Rattle.std.proofs.Common.{take, length}
use Rattle.std.specs.List.{flat_map}
use Rattle.cudf_referee.specs.Promises.Walks.{left}
use Rattle.cudf_check.specs.Working.Named.{instance_style}
use Rattle.cudf_check.specs.Report.{instance_line}
use Rattle.cudf_device.specs.Promises.PaperInside.{Says}
use Rattle.cudf_check.proofs.PagePriceLemmas.{HasTaken}
use Rattle.cudf_check.proofs.lines.scribe.print_rest.Given as goal

abbrev pub invariant-loop-instance : goal.invariant-loop-instance
invariant-loop-instance g l = record {
  taken : HasTaken l.fn.instances l.instances;
  printed : Says g.W.Sink.state l.fn.paper l.paper (flat_map (instance_line (instance_style l.scribe.explain l.scribe.origins l.scribe.lines) l.scribe.judged) (take taken.number (left l.fn.instances)));
}

abbrev pub decreases-loop-instance : goal.decreases-loop-instance
decreases-loop-instance g l = length (left l.instances)
