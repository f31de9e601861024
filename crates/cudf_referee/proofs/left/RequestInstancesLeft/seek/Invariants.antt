use Rattle.std.proofs.Common.{◌≡◌, List, length}
use Rattle.cudf_problem.specs.Promises.Views.{request_view}
use Rattle.cudf_job.specs.KeyViews.{key_view}
use Rattle.cudf_referee.specs.Instances.{PlainInstance}
use Rattle.cudf_referee.specs.Working.RequestInstancesLeft.{request_left_view}
use Rattle.cudf_referee.specs.Working.Sought.{IsRest}
use Rattle.cudf_referee.proofs.left.RequestInstancesLeft.seek.Given as goal

abbrev pub invariant-loop-instance : goal.invariant-loop-instance
invariant-loop-instance l =
    (request_left_view (request_view l.request) l.later ≡ request_left_view (request_view l.request) l.self)
    × ((all : List PlainInstance) → IsRest (key_view l.key) all (request_left_view (request_view l.request) l.fn.self) → IsRest (key_view l.key) all (request_left_view (request_view l.request) l.self))

abbrev pub decreases-loop-instance : goal.decreases-loop-instance
decreases-loop-instance l = length (request_left_view (request_view l.request) l.later)
