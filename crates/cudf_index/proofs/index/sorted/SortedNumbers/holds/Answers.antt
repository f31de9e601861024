use Rattle.std.proofs.Common.{◌≡◌, ◌-◌, suc, length, get_or, subst, ap, ◌∙◌, arith}
use Rattle.std.specs.List.Sorted.{IsNonDecreasing}
use Rattle.cudf_index.specs.Promises.Prices.{digits}
use Rattle.cudf_index.specs.Working.Ends.{StandsUnder}
use Rattle.cudf_index.proofs.BoundLemmas.{found_at, found_last}
use Rattle.cudf_index.proofs.PriceLemmas.{digits-but_one}
use Rattle.cudf_index.proofs.index.sorted.SortedNumbers.holds.Goals as goal

pub returns-then-greatest-number-clause-answer : goal.returns-then-greatest-number-clause-answer
returns-then-greatest-number-clause-answer c =
    let xs = c.args.self.now in
    found_last xs c.args.number c.at-greatest.result (subst IsNonDecreasing c.self.view_is c.self.invariant) (omega (arith, c.len-len.ensures, c.if-len-eq0.false))
    (λ d. c.at-greatest.ensures.value d ∙ ap (λ n. get_or xs (n - 1) d) c.len-len.ensures) (omega (arith, c.if-greatest-number.true))

pub returns-then-greatest-number-clause-price : goal.returns-then-greatest-number-clause-price
returns-then-greatest-number-clause-price c =
    let xs = c.args.self.now in
    let whole : digits (suc (length xs - 1)) ≡ digits (length xs) = ap digits (omega (arith, c.len-len.ensures, c.if-len-eq0.false)) in
    omega (arith, whole, digits-but_one (length xs - 1), c.at-greatest.ensures.price)

pub returns-clause-answer : goal.returns-clause-answer
returns-clause-answer c =
    let stands = c.below-place.ensures.stands in
    found_at c.args.self.now c.args.number _ c.below-place.result c.at.result (subst IsNonDecreasing c.self.view_is c.self.invariant)
    (subst (λ n. StandsUnder c.args.self.now n (c.len-len.result - 1) c.below-place.result) c.from.ensures stands)
    (omega (arith, stands.within, c.len-len.ensures, c.if-len-eq0.false)) c.at.ensures.value

pub returns-clause-price : goal.returns-clause-price
returns-clause-price c =
    let xs = c.args.self.now in
    let whole : digits (suc (length xs - 1)) ≡ digits (length xs) = ap digits (omega (arith, c.len-len.ensures, c.if-len-eq0.false)) in
    let below : digits (c.len-len.result - 1) ≡ digits (length xs - 1) = ap (λ n. digits (n - 1)) c.len-len.ensures in
    omega (arith, whole, below, digits-but_one (length xs - 1), c.at-greatest.ensures.price, c.below-place.ensures.price, c.at.ensures.price)
