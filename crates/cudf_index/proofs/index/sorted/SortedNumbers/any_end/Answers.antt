use Rattle.std.proofs.Common.{◌≡◌, ◌<◌, ◌-◌, ◌||◌, ℕ, length, get_or, subst, arith, ap, ap₂, ◌∙◌}
use Rattle.std.specs.List.Sorted.{IsNonDecreasing}
use Rattle.cudf_index.proofs.BoundLemmas.{ends_tell}
use Rattle.cudf_index.proofs.PriceLemmas.{digits-halved}
use Rattle.cudf_index.proofs.index.sorted.SortedNumbers.any_end.Goals as goal

pub returns : goal.returns
returns c =
    let xs = c.args.self.now in
    let some : 0 < length xs = omega (arith, c.len-len.ensures, c.if-len-eq0.false) in
    let last : (d : ℕ) → c.at-greatest.result ≡ get_or xs (length xs - 1) d = λ d. c.at-greatest.ensures.value d ∙ ap (λ n. get_or xs (n - 1) d) c.len-len.ensures in
    record {
      answer = ap₂ (λ a b. a || b) c.meets.ensures c.meets-2.ensures
          ∙ ends_tell c.args.bound xs c.at-least.result c.at-greatest.result c.requires (subst IsNonDecreasing c.self.view_is c.self.invariant) some c.at-least.ensures.value last;
      price = omega (arith, c.at-least.ensures.price, c.at-greatest.ensures.price, digits-halved 0 (length xs) some (omega arith));
      grows = omega (arith, c.at-least.ensures.price, c.at-greatest.ensures.price);
    }
