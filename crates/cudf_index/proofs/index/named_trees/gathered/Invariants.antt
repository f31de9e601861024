use Rattle.std.proofs.Common.{◌≡◌, ℕ, List, map, take, length}
use Rattle.std.specs.FinSet as set
use Rattle.cudf_problem.specs.Promises.Views.{package_view}
use Rattle.cudf_index.specs.Promises.Members.{outside}
use Rattle.cudf_index.specs.Working.Gathering.{row_of, given_of}
use Rattle.cudf_index.proofs.index.named_trees.gathered.Given as goal

abbrev pub invariant-loop-before : goal.invariant-loop-before
invariant-loop-before l = (length l.gathered.rows.items ≡ length l.gathered.names.keys) × ((f : List ℕ) → row_of f l.gathered ≡ given_of f (outside (set.contains l.without) (map package_view (take l.before l.package-items))))
