-- The comments so far are printed.
use Rattle.std.proofs.Common.{map, take}
use Rattle.std.specs.List.{flat_map, enumerate_from}
use Rattle.cudf_problem.specs.Promises.Views.{package_view}
use Rattle.cudf_check.specs.Report.{package_comment}
use Rattle.cudf_device.specs.Promises.PaperInside.{Says}
use Rattle.cudf_check.proofs.lines.dimacs.print_packages.Given as goal

abbrev pub invariant-loop-index : goal.invariant-loop-index
invariant-loop-index g l = Says g.W.Sink.state l.fn.paper l.paper (flat_map package_comment (take l.index (enumerate_from 1 (map package_view l.packages))))
