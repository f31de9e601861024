use Rattle.std.proofs.Common.{◌≡◌, map, take}
use Rattle.std.specs.List.{enumerate_from}
use Rattle.std.specs.FinSet as set
use Rattle.cudf_problem.specs.Promises.Names.{names_in}
use Rattle.cudf_problem.specs.Promises.Views.{package_view}
use Rattle.cudf_referee.specs.Working.Standings.{standing_of}
use Rattle.cudf_referee.proofs.counting.standings_of.Given as goal

-- the standings among the packages so far
abbrev pub invariant-loop-index : goal.invariant-loop-index
invariant-loop-index l = l.standings.items
    ≡ map (standing_of (set.contains l.before) (set.contains l.proposed) (enumerate_from 1 (map package_view (take l.index l.package-items)))) (names_in l.problem.packages)
