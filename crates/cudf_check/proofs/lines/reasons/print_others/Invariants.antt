-- The packages so far are printed.
use Rattle.std.proofs.Common.{take}
use Rattle.std.specs.List.{flat_map}
use Rattle.cudf_problem.specs.Universe.{package_at}
use Rattle.cudf_check.specs.Report.{also_text}
use Rattle.cudf_device.specs.Promises.PaperInside.{Says}
use Rattle.cudf_check.proofs.lines.reasons.print_others.Given as goal

abbrev pub invariant-loop-place : goal.invariant-loop-place
invariant-loop-place g l = Says g.W.Sink.state l.fn.paper l.paper (flat_map (λ place. also_text (package_at l.problem place)) (take l.place-index l.places))
