-- The literals so far are printed.
use Rattle.std.proofs.Common.{take}
use Rattle.std.specs.List.{flat_map}
use Rattle.cudf_check.specs.Report.{literal_text}
use Rattle.cudf_device.specs.Promises.PaperInside.{Says}
use Rattle.cudf_check.proofs.lines.dimacs.print_literals.Given as goal

abbrev pub invariant-loop-literal : goal.invariant-loop-literal
invariant-loop-literal g l = Says g.W.Sink.state l.fn.paper l.paper (flat_map literal_text (take l.literal-index l.literals))
