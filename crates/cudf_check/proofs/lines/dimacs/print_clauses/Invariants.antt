-- The lines so far are printed.
use Rattle.std.proofs.Common.{take}
use Rattle.std.specs.List.{flat_map}
use Rattle.cudf_check.specs.Report.{clause_line}
use Rattle.cudf_device.specs.Promises.PaperInside.{Says}
use Rattle.cudf_check.proofs.lines.dimacs.print_clauses.Given as goal

abbrev pub invariant-loop-index : goal.invariant-loop-index
invariant-loop-index g l = Says g.W.Sink.state l.fn.paper l.paper (flat_map clause_line (take l.index l.cnf.clauses))
