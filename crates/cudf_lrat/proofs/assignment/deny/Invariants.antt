use Rattle.std.proofs.Common.{◌≡◌, ◌≤◌, All, fold, take}
use Rattle.cudf_lrat.specs.Steps.{assign, negated}
use Rattle.cudf_lrat.specs.Working.Assignments.{assigned_by}
use Rattle.cudf_lrat.proofs.assignment.deny.Given as goal

abbrev pub invariant-loop-literal : goal.invariant-loop-literal
invariant-loop-literal l =
    record {
      known : assigned_by l.assignment l.step ≡ fold (λ known literal. assign known (negated literal)) (assigned_by l.initial.assignment l.step) (take l.literal-index l.clause);
      steps : All (λ m. m.step ≤ l.step) l.initial.assignment → All (λ m. m.step ≤ l.step) l.assignment;
    }
