use Rattle.std.proofs.Common.{◌≡◌, ℕ, List, map, take, None}
use Rattle.cudf_problem.specs.Promises.Views.{package_view}
use Rattle.cudf_problem.specs.Statuses.{is_initial}
use Rattle.cudf_index.specs.Satisfaction.{members, gives}
use Rattle.cudf_referee.specs.Working.Before.{kept_greatest, with_pairs}
use Rattle.cudf_referee.proofs.referee.initial_numbers.Given as goal

abbrev pub invariant-loop-package : goal.invariant-loop-package
invariant-loop-package l = (f : List ℕ) → kept_greatest f l.kept ≡ with_pairs f (gives (members (is_initial l.problem) (map package_view (take l.package-index l.package-items)))) None
