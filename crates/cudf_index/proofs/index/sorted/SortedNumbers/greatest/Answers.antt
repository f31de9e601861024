use Rattle.std.proofs.Common.{◌≡◌, ◌-◌, ℕ, length, get_or, subst, arith, ap, ◌∙◌}
use Rattle.std.specs.List.Sorted.{IsNonDecreasing}
use Rattle.cudf_index.proofs.EndLemmas.{greatest_last}
use Rattle.cudf_index.proofs.index.sorted.SortedNumbers.greatest.Goals as goal

pub returns-clause-greatest : goal.returns-clause-greatest
returns-clause-greatest c =
    let last : (d : ℕ) → c.at.result ≡ get_or c.args.self.now (length c.args.self.now - 1) d = λ d. c.at.ensures.value d ∙ ap (λ n. get_or c.args.self.now (n - 1) d) c.len-len.ensures in
    greatest_last c.args.self.now (subst IsNonDecreasing c.self.view_is c.self.invariant) c.at.result (omega (arith, c.len-len.ensures, c.if-len-eq0.false)) last
