use Rattle.std.proofs.Common.{◌-◌}
use Rattle.cudf_index.proofs.SearchedLemmas.{Searched}
use Rattle.cudf_index.proofs.index.sorted.SortedNumbers.below.Given as goal

abbrev pub invariant-loop-low : goal.invariant-loop-low
invariant-loop-low l = Searched l.self l.bound l.fn.high l.low l.high l.fn.steps l.steps

abbrev pub decreases-loop-low : goal.decreases-loop-low
decreases-loop-low l = l.high - l.low
