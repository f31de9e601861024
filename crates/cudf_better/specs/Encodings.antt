-- The clauses that a status compares better than some counts, in memory: own.
use Rattle.std.specs.Prelude.{◌≡◌, ◌+◌, ◌-◌, ℕ, Bool, true, false, ◌||◌, nat_lt, List, length, Option, Some, None}
use Rattle.cudf_problem.specs.Universe.{PlainProblem}
use Rattle.cudf_job.specs.declared.criteria.Aim.{Aim}
use Rattle.cudf_job.specs.declared.criteria.Criteria.{Criteria}
use Rattle.cudf_lrat.specs.Literals.{PlainCnf}
use Rattle.std.specs.List.{list_any}
use Rattle.cudf_better.specs.Better.{better_clauses, constraints, items}
use Rattle.cudf_better.specs.Cardinality.{next_variable}

-- the packages and the auxiliary variables
abbrev pub variables : PlainProblem → Criteria → List Aim → ℕ
variables problem counts aims = next_variable (length problem.packages + 1) (constraints problem counts aims) - 1

-- the clauses over them
abbrev pub better_cnf : PlainProblem → Criteria → List Aim → PlainCnf
better_cnf problem counts aims = record { variables = variables problem counts aims; clauses = better_clauses problem counts aims }

-- more items than a count can be
abbrev pub has_too_many : PlainProblem → Aim → Bool
has_too_many problem aim = nat_lt 18446744073709551615 (length (items problem aim.count))

-- more variables than SAT solvers number, more clauses than are counted here, or more items than a count can be
abbrev pub is_too_large : PlainProblem → Criteria → List Aim → Bool
is_too_large problem counts aims = nat_lt 2147483647 (variables problem counts aims) || (nat_lt 4294967295 (length (better_clauses problem counts aims)) || list_any (has_too_many problem) aims)

-- these are the clauses; or it is too large
abbrev pub IsEncoded : PlainProblem → Criteria → List Aim → Option PlainCnf → Type 0
IsEncoded problem counts aims (Some held) = (is_too_large problem counts aims ≡ false) × (held ≡ better_cnf problem counts aims)
IsEncoded problem counts aims None = is_too_large problem counts aims ≡ true
