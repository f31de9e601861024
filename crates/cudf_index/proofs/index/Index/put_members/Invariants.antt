use Rattle.std.proofs.Common.{◌≡◌, ◌++◌, map, take}
use Rattle.std.specs.FinSet as set
use Rattle.cudf_problem.specs.Promises.Views.{package_view}
use Rattle.cudf_index.specs.Satisfaction.{Placed, members}
use Rattle.cudf_index.proofs.index.Index.put_members.Given as goal

abbrev pub invariant-loop-before : goal.invariant-loop-before
invariant-loop-before l = l.places.items ≡ l.fn.places.items ++ map (λ (q : Placed). q.0) (members (set.contains l.self-inside.status) (map package_view (take l.before l._package-items)))
