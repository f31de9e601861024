use Rattle.std.proofs.Common.{◌≡◌, ◌≤◌, ◌*◌, length, take}
use Rattle.cudf_index.proofs.PairLemmas.{equals}
use Rattle.cudf_index.proofs.index.extents.equal_pairs.Given as goal

abbrev pub invariant-loop-number : goal.invariant-loop-number
invariant-loop-number l = (l.pairs ≡ equals l.numbers (take l.number-index l.numbers)) × (l.pairs ≤ l.number-index * length l.numbers)
