use Rattle.std.proofs.Common.{◌≤◌, length, arith, ap}
use Rattle.std.proofs.lemmas.List.{take_all}
use Rattle.cudf_index.proofs.PairLemmas.{equals, equals_pairs}
use Rattle.cudf_index.proofs.index.extents.equal_pairs.Goals as goal

pub returns-clause-counted : goal.returns-clause-counted
returns-clause-counted c =
    let numbers = c.args.numbers.now in
    let end : length numbers ≤ c.loop-number.number-index = omega (arith, ap length c.as_slice-number-items.ensures, c.loop-number-test.false) in
    omega (arith, c.loop-number.invariant.0, ap (equals numbers) (take_all c.loop-number.number-index numbers end), equals_pairs numbers)
