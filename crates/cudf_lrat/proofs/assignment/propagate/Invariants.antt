use Rattle.std.proofs.Common.{◌≡◌, ◌≤◌, All, drop, take}
use Rattle.cudf_lrat.specs.Steps.{propagate}
use Rattle.cudf_lrat.specs.Working.Indices.{indexed}
use Rattle.cudf_lrat.specs.Working.Assignments.{after_used, assigned_by}
use Rattle.cudf_lrat.proofs.assignment.propagate.Given as goal

-- what is used so far and of what is left is what is used of all
abbrev pub invariant-loop-position : goal.invariant-loop-position
invariant-loop-position l =
    record {
      propagated : after_used (take l.position l.indices) (propagate (indexed l.cnf l.steps) (assigned_by l.assignment l.step) (drop l.position l.indices)) ≡ propagate (indexed l.cnf l.steps) (assigned_by l.initial.assignment l.step) l.indices;
      steps : All (λ m. m.step ≤ l.step) l.initial.assignment → All (λ m. m.step ≤ l.step) l.assignment;
    }
