-- The lines so far are printed.
use Rattle.std.proofs.Common.{take}
use Rattle.std.specs.List.{flat_map}
use Rattle.cudf_check.specs.Report.{aim_line}
use Rattle.cudf_device.specs.Promises.PaperInside.{Says}
use Rattle.cudf_check.proofs.lines.judged.print_aim_lines.Given as goal

abbrev pub invariant-loop-aim : goal.invariant-loop-aim
invariant-loop-aim g l = Says g.W.Sink.state l.fn.paper l.paper (flat_map (aim_line l.criteria) (take l.aim-index l.aims))
