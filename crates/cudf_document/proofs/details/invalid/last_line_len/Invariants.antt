-- No end of a line comes after the start.
use Rattle.std.proofs.Common.{◌≡◌, ◌+◌, ◌≤◌, length, take}
use Rattle.cudf_document.specs.Details.{last_line_len}
use Rattle.cudf_document.proofs.details.invalid.last_line_len.Given as goal

abbrev pub invariant-loop-start : goal.invariant-loop-start
invariant-loop-start l = (l.start ≤ length l.bytes) × (l.start + last_line_len l.bytes ≡ length l.bytes + last_line_len (take l.start l.bytes))

abbrev pub decreases-loop-start : goal.decreases-loop-start
decreases-loop-start l = l.start
