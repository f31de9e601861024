use Rattle.std.proofs.Common.{◌≡◌, map, take}
use Rattle.cudf_problem.specs.Promises.Views.{package_view}
use Rattle.cudf_problem.proofs.solution.initial.Given as goal

abbrev pub invariant-loop-package : goal.invariant-loop-package
invariant-loop-package l = l.flags.items ≡ map (λ p. p.installed) (map package_view (take l.package-index l.package-items))
