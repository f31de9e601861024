-- Those so far are counted.
use Rattle.std.proofs.Common.{◌≡◌, [], take}
use Rattle.std.specs.FinSet as set
use Rattle.std.specs.List.{count_by}
use Rattle.cudf_referee.specs.Criteria.{at_most_max, is_touched, universe}
use Rattle.cudf_referee.specs.Proposals.{proposal}
use Rattle.cudf_referee.proofs.counting.count_touched.Given as goal

abbrev pub invariant-loop-number : goal.invariant-loop-number
invariant-loop-number l = let s = proposal l.problem (set.contains l.before) (set.contains l.proposed) [] in
    l.count ≡ at_most_max (count_by (is_touched s) (take l.number (universe s)))
