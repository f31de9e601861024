-- What contracts see of who prints the lines of instances.
use Rattle.std.specs.Prelude.{ℕ, Bool, List, Option}
use Rattle.cudf_problem.specs.Universe.{PlainProblem}
use Rattle.cudf_referee.specs.Proposals.{Proposal}
use Rattle.cudf_check.specs.Naming.{PlainOrigins}

-- what is judged, whether lines are explained, the files that they name, and the lines of the solution's stanzas of all
-- packages
pub record Wording : Type 0 where
  pub judged : Proposal
  pub explain : Bool
  pub origins : PlainOrigins
  pub lines : List (Option ℕ)

-- the problem whose instances are printed, and whether lines are explained
pub record ReasonWording : Type 0 where
  pub problem : PlainProblem
  pub explain : Bool
