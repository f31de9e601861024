use Rattle.std.proofs.Common.{◌≡◌, ℕ, ◌≤◌, List, [], ◌∷◌, length}
use Rattle.cudf_lrat.specs.Answers.{needs}
use Rattle.cudf_lrat.specs.Lists.{lists_in}
use Rattle.cudf_lrat.specs.Steps.{greatest_number}
use Rattle.cudf_lrat.specs.Working.Indices.{steps_below, steps_in}
use Rattle.cudf_lrat.specs.Working.Needed.{AreNeeded}
use Rattle.cudf_lrat.proofs.steps.mark_backwards.Given as goal

-- what the steps that are left need of what is marked is all that the last one needs
abbrev pub invariant-loop-left : goal.invariant-loop-left
invariant-loop-left l =
    record {
      within : l.left ≤ length l.steps.numbers.items;
      needed : (marked : List ℕ) × AreNeeded l.cnf l.steps l.needed marked
          × (needs (steps_below (length l.cnf.clauses) l.steps.numbers.items (lists_in l.steps.clauses) (lists_in l.steps.used) l.left) marked ≡ needs (steps_in l.cnf l.steps) (greatest_number l.cnf.clauses (steps_in l.cnf l.steps) ∷ []));
    }

abbrev pub decreases-loop-left : goal.decreases-loop-left
decreases-loop-left l = l.left
