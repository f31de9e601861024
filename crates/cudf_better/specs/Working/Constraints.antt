-- Cardinality constraints in memory.
use Rattle.std.specs.Prelude.{◌≡◌, ℕ, false, List, map}
use Rattle.std.specs.List.{list_any}
use Rattle.cudf_problem.specs.Universe.{PlainProblem}
use Rattle.cudf_job.specs.declared.criteria.Aim.{Aim}
use Rattle.cudf_job.specs.declared.criteria.Criteria.{Criteria}
use Rattle.cudf_better.specs.declared.constraint.Constraint.{Constraint}
use Rattle.cudf_better.specs.Better.{constraint_by, constraints}
use Rattle.cudf_better.specs.Cardinality.{AtMost}
use Rattle.cudf_better.specs.Encodings.{has_too_many}
use Rattle.cudf_better.specs.Working.Definitions.{at_most}

abbrev pub constraints_of : List Constraint → List AtMost
constraints_of made = map (λ b. at_most b.bound b.formulas) made

-- it says that the count of the aim is no worse than this, and the count fits its type
pub record IsConstraint (problem : PlainProblem) (aim : Aim) (count : ℕ) (made : Constraint) : Type 0 where
  pub is : at_most made.bound made.formulas ≡ constraint_by problem aim.sign aim.count count
  pub few : has_too_many problem aim ≡ false

-- those of all aims
pub record AreConstraints (problem : PlainProblem) (counts : Criteria) (aims : List Aim) (made : List Constraint) : Type 0 where
  pub are : constraints_of made ≡ constraints problem counts aims
  pub few : list_any (has_too_many problem) aims ≡ false
