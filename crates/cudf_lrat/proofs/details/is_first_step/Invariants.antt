-- None of the lines so far is a step.
use Rattle.std.proofs.Common.{◌≡◌, length, take}
use Rattle.std.specs.List.{list_all}
use Rattle.cudf_text.specs.Lines.{lines}
use Rattle.cudf_lrat.specs.Details.{is_first_step, is_skipped}
use Rattle.cudf_lrat.specs.Lines.{proof_line}
use Rattle.cudf_lrat.proofs.details.is_first_step.Given as goal

abbrev pub invariant-loop-line : goal.invariant-loop-line
invariant-loop-line l = list_all (λ line. is_skipped (proof_line line)) (take l.before (lines l.rest)) ≡ is_first_step l.fn.proof l.fn.number

abbrev pub decreases-loop-line : goal.decreases-loop-line
decreases-loop-line l = length l.rest
