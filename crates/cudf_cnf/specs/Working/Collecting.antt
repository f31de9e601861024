-- Clauses that a collector has taken.
use Rattle.std.specs.Prelude.{◌≡◌, ◌<◌, ◌≤◌, ℕ, Bool, true, false, List, length, Option, Some, None}
use Rattle.cudf_problem.specs.Universe.{PlainProblem}
use Rattle.cudf_cnf.specs.declared.clauses.Collector.{Collector}
use Rattle.cudf_cnf.specs.Cnf.{Keyed, cnf}
use Rattle.cudf_cnf.specs.Encodings.{PlainKeyedClauses}

-- it holds these, and there is room for them
pub record Received (xs : List Keyed) (c : Collector) : Type 0 where
  pub held : c.clauses.clauses ≡ xs
  pub fits : length c.clauses.clauses ≤ c.room

-- whether there was
abbrev pub Outcome : Bool → List Keyed → Collector → Type 0
Outcome true xs c = Received xs c
Outcome false xs c = c.room < length xs

-- what a call leaves as it is
pub record SameFrame (old new : Collector) : Type 0 where
  pub places : new.clauses.places ≡ old.clauses.places
  pub room : new.room ≡ old.room

-- all clauses of the problem are held, and there is room for so many; or there isn't
abbrev pub IsHeld : PlainProblem → ℕ → Option PlainKeyedClauses → Type 0
IsHeld problem room (Some held) = (length (cnf problem) ≤ room) × (held ≡ record { places = length problem.packages; clauses = cnf problem })
IsHeld problem room None = room < length (cnf problem)
