-- CNF clauses in memory, as contracts see them: own.
use Rattle.std.specs.Prelude.{◌≡◌, ℕ, true, false, List, length, Option, Some, None}
use Rattle.cudf_problem.specs.Universe.{PlainProblem}
use Rattle.cudf_cnf.specs.Cnf.{Keyed, cnf, is_too_large}

-- clauses over the places from 1 to a number, each with its key
pub record PlainKeyedClauses : Type 0 where
  pub places : ℕ
  pub clauses : List Keyed

-- these are the clauses of the problem's CNF; or it is too large
abbrev pub IsEncoded : PlainProblem → Option PlainKeyedClauses → Type 0
IsEncoded problem (Some held) = (is_too_large problem ≡ false) × (held ≡ record { places = length problem.packages; clauses = cnf problem })
IsEncoded problem None = is_too_large problem ≡ true
