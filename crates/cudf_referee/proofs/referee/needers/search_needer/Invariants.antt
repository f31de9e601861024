use Rattle.std.proofs.Common.{◌≡◌, None, map, take}
use Rattle.std.specs.FinSet as set
use Rattle.cudf_problem.specs.Promises.Views.{package_view}
use Rattle.cudf_index.specs.Satisfaction.{members}
use Rattle.cudf_referee.specs.Explanations.{needs_place}
use Rattle.cudf_referee.specs.Working.Needers.{first_passing}
use Rattle.cudf_referee.proofs.referee.needers.search_needer.Given as goal

abbrev pub invariant-loop-before : goal.invariant-loop-before
invariant-loop-before l = first_passing (needs_place l.index l.place) (members (set.contains l.status) (map package_view (take l.before l.package-items))) ≡ None
