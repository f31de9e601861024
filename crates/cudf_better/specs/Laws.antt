-- What the clauses of a better answer say: own.
use Rattle.std.specs.Prelude.{◌≡◌, ◌+◌, ◌<◌, ℕ, Bool, true, false, ◌&&◌, ◌||◌, nat_lt, nat_le, List, [], ◌∷◌, length, map, All}
use Rattle.std.specs.List.{list_any, list_all, count_by}
use Rattle.std.specs.declared.cmp.Ordering.TheVariants.{Less}
use Rattle.cudf_problem.specs.Promises.Packages.{are_distinct}
use Rattle.cudf_problem.specs.Statuses.{PlainUnknown}
use Rattle.cudf_problem.specs.Universe.{PlainProblem, package_id}
use Rattle.cudf_job.specs.Comparing.{compare}
use Rattle.cudf_job.specs.declared.criteria.Aim.{Aim}
use Rattle.cudf_job.specs.declared.criteria.Criteria.{Criteria}
use Rattle.cudf_lrat.specs.declared.cnf.Literal.{Literal}
use Rattle.cudf_lrat.specs.Literals.{Assignment, IsCore, SatisfiesAll, is_true_in}
use Rattle.cudf_referee.specs.Criteria.{criteria}
use Rattle.cudf_referee.specs.Solutions.{is_solution}
use Rattle.cudf_cnf.specs.Laws.{proposed}
use Rattle.cudf_better.specs.Better.{better_clauses}
use Rattle.cudf_better.specs.Encodings.{is_too_large}
use Rattle.cudf_better.specs.Cardinality.{AtMost, Dnf, lexicographic_clauses}

-- ---- cardinality constraints

-- all literals of one of its terms are true
abbrev pub holds : Assignment → Dnf → Bool
holds true_at formula = list_any (list_all (is_true_in true_at)) formula

-- how many of the formulas are true
abbrev pub count : Assignment → AtMost → ℕ
count true_at constraint = count_by (holds true_at) constraint.formulas

-- some constraint is strict, fewer are true than its bound, and all before it are satisfied
abbrev pub are_less : Assignment → List AtMost → Bool
are_less true_at [] = false
are_less true_at (constraint ∷ constraints) = nat_lt (count true_at constraint) constraint.bound || (nat_le (count true_at constraint) constraint.bound && are_less true_at constraints)

-- the formulas speak of variables below this one
abbrev pub AreBelow : ℕ → List Dnf → Type 0
AreBelow next formulas = All (All (All (λ literal. literal.variable < next))) formulas

-- an assignment of the variables below this one extends to one that satisfies all clauses
pub record Satisfied (next : ℕ) (true_at : Assignment) (clauses : List (List Literal)) : Type 0 where
  pub extended : Assignment
  pub same : (variable : ℕ) → variable < next → extended variable ≡ true_at variable
  pub all : SatisfiesAll extended clauses

abbrev pub LessSatisfies : Type 0
LessSatisfies = (next : ℕ) (true_at : Assignment) (constraints : List AtMost) → All (λ constraint. AreBelow next constraint.formulas) constraints
    → are_less true_at constraints ≡ true → Satisfied next true_at (lexicographic_clauses next [] constraints)

-- ---- better solutions

-- a solution that compares better than these counts by the aims satisfies the clauses, with some truth of the variables behind the
-- packages
abbrev pub BetterSatisfies : Type 0
BetterSatisfies = (problem : PlainProblem) (counts : Criteria) (aims : List Aim) → are_distinct (map package_id problem.packages) ≡ true → is_too_large problem counts aims ≡ false
    → (is_installed : Assignment) (unknown : List PlainUnknown) → is_solution (proposed problem is_installed unknown) ≡ true
    → compare aims (criteria (proposed problem is_installed unknown)) counts ≡ Less
    → Satisfied (length problem.packages + 1) is_installed (better_clauses problem counts aims)

-- so where some of them are refuted, no solution compares better
abbrev pub RefutedIsBest : Type 0
RefutedIsBest = (problem : PlainProblem) (counts : Criteria) (aims : List Aim) → are_distinct (map package_id problem.packages) ≡ true → is_too_large problem counts aims ≡ false
    → (core : List ℕ) → IsCore (better_clauses problem counts aims) core
    → (is_installed : Assignment) (unknown : List PlainUnknown) → is_solution (proposed problem is_installed unknown) ≡ true
    → ¬ (compare aims (criteria (proposed problem is_installed unknown)) counts ≡ Less)
