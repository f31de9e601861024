use Rattle.std.proofs.Common.{None, length}
use Rattle.cudf_referee.specs.Working.Searches.{Goes, package_left}
use Rattle.cudf_referee.specs.Working.PackageInstancesLeft.{placed_view, left_view}
use Rattle.cudf_referee.proofs.ComesLemmas.{IsTail}
use Rattle.cudf_referee.proofs.referee.instances.Instances.search_package.Given as goal

abbrev pub invariant-loop-instance : goal.invariant-loop-instance
invariant-loop-instance l =
    Goes l.fn.self (package_left (placed_view l.candidate) l.fn.left) None (package_left (placed_view l.candidate) l.left) l.self
    × IsTail (package_left (placed_view l.candidate) l.fn.left) (package_left (placed_view l.candidate) l.left)

abbrev pub decreases-loop-instance : goal.decreases-loop-instance
decreases-loop-instance l = length (left_view (placed_view l.candidate) l.left)
