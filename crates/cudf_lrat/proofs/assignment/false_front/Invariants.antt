use Rattle.std.proofs.Common.{◌≡◌, ℕ, ◌<◌, true, get_or}
use Rattle.cudf_lrat.specs.Steps.{is_false}
use Rattle.cudf_lrat.specs.Working.Assignments.{assigned_by, no_literal}
use Rattle.cudf_lrat.proofs.assignment.false_front.Given as goal

-- the literals so far are false
abbrev pub invariant-loop-index : goal.invariant-loop-index
invariant-loop-index l = (k : ℕ) → k < l.index → is_false (assigned_by l.assignment l.step) (get_or l.clause k no_literal) ≡ true
