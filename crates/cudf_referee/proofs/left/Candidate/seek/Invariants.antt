use Rattle.std.proofs.Common.{◌≡◌, List, length}
use Rattle.cudf_job.specs.KeyViews.{key_view}
use Rattle.cudf_referee.specs.Instances.{PlainInstance}
use Rattle.cudf_referee.specs.Working.PackageInstancesLeft.{placed_view, left_view}
use Rattle.cudf_referee.specs.Working.Sought.{IsRest}
use Rattle.cudf_referee.proofs.left.Candidate.seek.Given as goal

abbrev pub invariant-loop-instance : goal.invariant-loop-instance
invariant-loop-instance l =
    (left_view (placed_view l.self) l.later ≡ left_view (placed_view l.self) l.left)
    × ((all : List PlainInstance) → IsRest (key_view l.key) all (left_view (placed_view l.self) l.fn.left) → IsRest (key_view l.key) all (left_view (placed_view l.self) l.left))

abbrev pub decreases-loop-instance : goal.decreases-loop-instance
decreases-loop-instance l = length (left_view (placed_view l.self) l.later)
