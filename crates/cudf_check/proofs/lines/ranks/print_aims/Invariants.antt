-- The aims so far are printed.
use Rattle.std.proofs.Common.{take}
use Rattle.std.specs.List.{flat_map}
use Rattle.cudf_check.specs.RankReport.{aim_count}
use Rattle.cudf_device.specs.Promises.PaperInside.{Says}
use Rattle.cudf_check.proofs.lines.ranks.print_aims.Given as goal

abbrev pub invariant-loop-aim : goal.invariant-loop-aim
invariant-loop-aim g l = Says g.W.Sink.state l.fn.paper l.paper (flat_map (aim_count l.criteria) (take l.aim-index l.aims))
