use Rattle.std.proofs.Common.{◌≡◌, map, take}
use Rattle.cudf_problem.specs.Promises.Views.{package_view}
use Rattle.cudf_referee.specs.Working.Named.{has_kept_name}
use Rattle.cudf_referee.proofs.referee.kept_name_flags.Given as goal

abbrev pub invariant-loop-package : goal.invariant-loop-package
invariant-loop-package l = l.named.items ≡ map (λ p. has_kept_name l.status (package_view p)) (take l.package-index l.packages)
