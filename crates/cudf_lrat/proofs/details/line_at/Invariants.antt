-- The line is among those that are left, after those that were passed.
use Rattle.std.proofs.Common.{◌≡◌, ◌-◌, length, slice_get}
use Rattle.cudf_text.specs.Lines.{lines}
use Rattle.cudf_lrat.proofs.details.line_at.Given as goal

abbrev pub invariant-loop-line : goal.invariant-loop-line
invariant-loop-line l = slice_get (lines l.rest) l.before ≡ slice_get (lines l.fn.proof) (l.fn.number - 1)

abbrev pub decreases-loop-line : goal.decreases-loop-line
decreases-loop-line l = length l.rest
