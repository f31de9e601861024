use Rattle.std.proofs.Common.{◌≡◌, ℕ, true, map, take}
use Rattle.std.specs.FinSet as set
use Rattle.cudf_problem.specs.Promises.Views.{package_view}
use Rattle.cudf_index.specs.Satisfaction.{members}
use Rattle.cudf_referee.specs.Explanations.{needs_place}
use Rattle.cudf_referee.specs.Working.Needers.{first_passing, kept_needer}
use Rattle.cudf_referee.proofs.referee.needers.needers_of.Given as goal

abbrev pub invariant-loop-before : goal.invariant-loop-before
invariant-loop-before l = (place : ℕ) → set.contains l.asked place ≡ true
    → kept_needer place l.needers ≡ first_passing (needs_place l.index place) (members (set.contains l.status) (map package_view (take l.before l.package-items)))
