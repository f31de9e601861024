-- The text so far is printed, and what is left follows it.
use Rattle.std.proofs.Common.{◌≡◌, ℕ, List, ◌++◌, length}
use denote.Text.{Utf8}
use denote.Shadow.{shadow}
use Rattle.cudf_check.specs.Shown.{shown}
use Rattle.cudf_device.specs.Promises.PaperInside.{Says}
use Rattle.cudf_check.proofs.lines.naming.print_shown.Given as goal

abbrev pub invariant-loop-before : goal.invariant-loop-before
invariant-loop-before g l = shadow (Utf8 l.rest) × ((printed : List ℕ) × Says g.W.Sink.state l.fn.paper l.paper printed × (printed ++ shown l.rest ≡ shown l.text))

abbrev pub decreases-loop-before : goal.decreases-loop-before
decreases-loop-before g l = length l.rest
