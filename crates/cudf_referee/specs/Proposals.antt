-- What is judged: a problem, the initial and the proposed status, and what is proposed beyond the universe.
use Rattle.std.specs.Prelude.{ℕ, Bool, true, ◌==◌, List, [], unwrap_or}
use Rattle.std.specs.List.{list_any}
use Rattle.std.specs.Option.{option_or}
use Rattle.cudf_value.specs.Formulas.{PlainAtom}
use Rattle.cudf_problem.specs.Universe.{PlainProblem}
use Rattle.cudf_problem.specs.Statuses.{PlainUnknown, is_initial}
use Rattle.cudf_index.specs.Satisfaction.{Placed, members}

pub record Proposal : Type 0 where
  pub problem : PlainProblem
  -- the packages that were installed, and those that are to be, each with its place
  pub initial : List Placed
  pub proposed : List Placed
  -- the solution's installed stanzas whose pairs aren't in the universe
  pub unknown : List PlainUnknown

-- the status holds the package at this place
abbrev pub holds_place : List Placed → ℕ → Bool
holds_place status place = list_any (λ (other, p). other == place) status

-- the statuses are those of a problem's packages that these tests of places pick
abbrev pub proposal : PlainProblem → (ℕ → Bool) → (ℕ → Bool) → List PlainUnknown → Proposal
proposal problem was_installed is_installed unknown = record {
  problem = problem;
  initial = members was_installed problem.packages;
  proposed = members is_installed problem.packages;
  unknown = unknown;
}

-- all packages of the problem are to be installed, and nothing beyond them
abbrev pub everything : PlainProblem → Proposal
everything problem = proposal problem (is_initial problem) (λ place. true) []

-- what a package recommends: its own conjuncts, else those of the declared default, else none
abbrev pub recommended : Proposal → Placed → List (List PlainAtom)
recommended s (place, p) = unwrap_or (option_or p.recommends s.problem.recommends) []
