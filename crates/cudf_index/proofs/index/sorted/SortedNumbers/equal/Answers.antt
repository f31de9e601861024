use Rattle.std.proofs.Common.{nat_lt, nat_le, ◌==◌, arith}
use Rattle.cudf_index.proofs.CountLemmas.{count-sum, below_equal}
use Rattle.cudf_index.proofs.index.sorted.SortedNumbers.equal.Goals as goal

pub overflow_sub-result : goal.overflow_sub-result
overflow_sub-result c =
    let n = c.args.number in
    omega (arith, count-sum (λ m. nat_lt m n) (λ m. m == n) (λ m. nat_le m n) (below_equal n) c.args.self.now)

pub returns : goal.returns
returns c =
    let n = c.args.number in
    let both = count-sum (λ m. nat_lt m n) (λ m. m == n) (λ m. nat_le m n) (below_equal n) c.args.self.now in
    record { counted = omega (arith, both); price = omega arith; grows = omega arith }
