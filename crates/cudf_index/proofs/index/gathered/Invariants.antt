use Rattle.std.proofs.Common.{◌≡◌, ℕ, List, map, take, length}
use Rattle.std.specs.FinSet as set
use Rattle.cudf_problem.specs.Promises.Views.{package_view}
use Rattle.cudf_index.specs.Satisfaction.{members}
use Rattle.cudf_index.specs.Working.Gathering.{row_of, given_of, AreFilled}
use Rattle.cudf_index.proofs.index.gathered.Given as goal

abbrev pub invariant-loop-before : goal.invariant-loop-before
invariant-loop-before l = (length l.gathered.rows.items ≡ length l.gathered.names.keys) × ((f : List ℕ) → row_of f l.gathered ≡ given_of f (members (set.contains l.status) (map package_view (take l.before l.package-items)))) × AreFilled l.gathered
