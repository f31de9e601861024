-- The lines so far are printed.
use Rattle.std.proofs.Common.{◌≡◌, take}
use Rattle.std.specs.List.{flat_map}
use Rattle.cudf_check.specs.Report.{told_line}
use Rattle.cudf_check.specs.Working.Named.{reason_style}
use Rattle.cudf_device.specs.Promises.PaperInside.{Says}
use Rattle.cudf_check.proofs.lines.reasons.ReasonScribe.print_reasons.Given as goal

abbrev pub invariant-loop-index : goal.invariant-loop-index
invariant-loop-index g l = record {
  problem : l.finder ≡ l.self.problem;
  printed : Says g.W.Sink.state l.fn.paper l.paper (flat_map (told_line (reason_style l.self.explain) l.self.problem) (take l.index l.reasons));
}
