-- The line is among those that are left, after those that were passed.
use Rattle.std.proofs.Common.{◌≡◌, ◌-◌, length, slice_get}
use denote.Text.{Utf8}
use denote.Shadow.{shadow}
use Rattle.cudf_text.specs.Lines.{lines}
use Rattle.cudf_document.proofs.details.invalid.line_at.Given as goal

abbrev pub invariant-loop-line : goal.invariant-loop-line
invariant-loop-line l = shadow (Utf8 l.rest) × (slice_get (lines l.rest) l.before ≡ slice_get (lines l.fn.text) (l.fn.number - 1))

abbrev pub decreases-loop-line : goal.decreases-loop-line
decreases-loop-line l = length l.rest
