-- What the CNF of a problem says of its solutions: own.
use Rattle.std.specs.Prelude.{◌≡◌, ◌-◌, ℕ, Bool, false, not, ◌&&◌, List, [], filter, map, Contains, IsTrue, Some, slice_get}
use Rattle.std.specs.List.{list_all}
use Rattle.cudf_problem.specs.Documents.{is_empty}
use Rattle.cudf_problem.specs.Statuses.{PlainUnknown, is_initial}
use Rattle.cudf_problem.specs.Universe.{PlainProblem}
use Rattle.cudf_job.specs.Keys.{never_descend}
use Rattle.cudf_lrat.specs.Literals.{IsCore, is_satisfied_by}
use Rattle.cudf_referee.specs.Instances.{PlainInstance}
use Rattle.cudf_referee.specs.Proposals.{Proposal, proposal}
use Rattle.cudf_referee.specs.Solutions.{is_solution}
use Rattle.cudf_referee.specs.Violations.{listing, problem_instances}
use Rattle.cudf_cnf.specs.Cnf.{Keyed, clauses_of, cnf, instance_clauses}

-- an assignment of truth to places is a status: its true places are the installed packages
abbrev pub proposed : PlainProblem → (ℕ → Bool) → List PlainUnknown → Proposal
proposed problem is_installed unknown = proposal problem (is_initial problem) is_installed unknown

-- the instances that a status violates are those of the problem whose clauses it doesn't all satisfy
abbrev pub FalsifiedIsViolated : Type 0
FalsifiedIsViolated = (problem : PlainProblem) (is_installed : ℕ → Bool)
    → listing (proposed problem is_installed []) ≡ filter (λ i. not (list_all (is_satisfied_by is_installed) (instance_clauses problem i))) (problem_instances problem)

-- a proposal is a solution exactly where it has no unknown stanza and satisfies each clause
abbrev pub SolutionSatisfies : Type 0
SolutionSatisfies = (problem : PlainProblem) (is_installed : ℕ → Bool) (unknown : List PlainUnknown)
    → is_solution (proposed problem is_installed unknown) ≡ (is_empty unknown && list_all (is_satisfied_by is_installed) (clauses_of (cnf problem)))

-- one of the clauses of these numbers, from 1, and a violated instance of its key
pub record ViolatesOneOf (problem : PlainProblem) (core : List ℕ) (is_installed : ℕ → Bool) (unknown : List PlainUnknown) : Type 0 where
  pub number : ℕ
  pub clause : Keyed
  pub instance : PlainInstance
  pub named : Contains core number
  pub stands : slice_get (cnf problem) (number - 1) ≡ Some clause
  pub violated : Contains (listing (proposed problem is_installed unknown)) instance
  pub key : instance.key ≡ clause.0

-- where the clauses of some numbers, from 1, are refuted, each status violates an instance of one of their keys
abbrev pub RefutedAreViolated : Type 0
RefutedAreViolated = (problem : PlainProblem) (core : List ℕ) → IsCore (clauses_of (cnf problem)) core
    → (is_installed : ℕ → Bool) (unknown : List PlainUnknown) → ViolatesOneOf problem core is_installed unknown

-- and so no proposal is a solution
abbrev pub RefutedHasNone : Type 0
RefutedHasNone = (problem : PlainProblem) (core : List ℕ) → IsCore (clauses_of (cnf problem)) core
    → (is_installed : ℕ → Bool) (unknown : List PlainUnknown) → is_solution (proposed problem is_installed unknown) ≡ false

-- the CNF is in key order, the clauses of one instance beside each other
abbrev pub KeysNeverDescend : Type 0
KeysNeverDescend = (problem : PlainProblem) → IsTrue (never_descend (map (λ c. c.0) (cnf problem)))
