-- What a walk over the instances of a problem and a solution rests on.
use Rattle.std.specs.Prelude.{◌≡◌, ℕ, Bool, List, Option, map, IsTrue}
use Rattle.cudf_problem.specs.Statuses.{PlainUnknown, is_initial, ascend_above}
use Rattle.cudf_problem.specs.Universe.{PlainProblem}
use Rattle.cudf_index.specs.Satisfaction.{Placed, members}
use Rattle.cudf_referee.specs.Proposals.{Proposal}
use Rattle.cudf_referee.specs.Promises.Before.{AreGreatest}
use Rattle.cudf_referee.specs.Working.Named.{has_kept_name}

-- the packages that were installed
abbrev pub installed_before : PlainProblem → List Placed
installed_before problem = members (is_initial problem) problem.packages

-- the status is what is proposed; of each entry of `upgrade` the greatest number before is kept, and each package's flag says
-- whether its name is to be kept and is there
pub record Agrees (problem : PlainProblem) (is_installed : ℕ → Bool) (before : List (Option ℕ)) (now : List Placed) (named : List Bool) (unknown : List PlainUnknown) : Type 0 where
  pub numbers : AreGreatest (installed_before problem) problem.request.upgrade before
  pub is : now ≡ members is_installed problem.packages
  pub flags : named ≡ map (has_kept_name now) problem.packages
  pub ascends : IsTrue (ascend_above 0 unknown)

-- the proposal of this status and these unknown stanzas
abbrev pub put_forward : PlainProblem → List Placed → List PlainUnknown → Proposal
put_forward problem proposed unknown = record { problem = problem; initial = installed_before problem; proposed = proposed; unknown = unknown }
