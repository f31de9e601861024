-- The counts so far are printed.
use Rattle.std.proofs.Common.{take}
use Rattle.std.specs.List.{flat_map}
use Rattle.cudf_job.specs.Aims.{count_row}
use Rattle.cudf_check.specs.Report.{count_line}
use Rattle.cudf_device.specs.Promises.PaperInside.{Says}
use Rattle.cudf_check.proofs.lines.judged.print_counts.Given as goal

abbrev pub invariant-loop-count : goal.invariant-loop-count
invariant-loop-count g l = Says g.W.Sink.state l.fn.paper l.paper (flat_map (λ count. count_line (count_row count).0 ((count_row count).1 l.criteria)) (take l.count-index l.counts))
