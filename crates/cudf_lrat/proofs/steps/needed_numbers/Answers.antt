use Rattle.std.proofs.Common.{◌≡◌, ◌+◌, ◌-◌, ℕ, List, [], ◌∷◌, ◌++◌, true, false, get_or, ap, sym, ◌∙◌, Vec, Global, arith}
use Rattle.cudf_lrat.proofs.RangeLemmas.{chosen-no, chosen-yes}
use Rattle.cudf_lrat.proofs.steps.needed_numbers.Goals as goal
use Rattle.cudf_lrat.proofs.steps.needed_numbers.Goals.{then-is_needed+in_ok-push, else-is_needed}

pub loop-index-preserved : goal.loop-index-preserved
loop-index-preserved c =
    let i = c.loop-index.index in
    let needed = c.args.needed.now in
    let test = λ (n : ℕ). get_or needed (n - 1) false in
    let back : i + 1 - 1 ≡ i = omega arith in
    let next : i + 1 ≡ 1 + i = omega arith in
    elim c.if-is_needed.branch [
      | then-is_needed+in_ok-push w ↦
          let here : test (i + 1) ≡ true = ap (λ k. get_or needed k false) back ∙ w.if-is_needed.true in
          ap (λ (v : Vec ℕ Global). v.items) w.core-is ∙ w.in_ok-push.ensures.items ∙ ap (λ (xs : List ℕ). xs ++ (i + 1) ∷ []) c.loop-index.invariant ∙ sym (chosen-yes test i (i + 1) next here)
      | else-is_needed w ↦
          let here : test (i + 1) ≡ false = ap (λ k. get_or needed k false) back ∙ w.if-is_needed.false in
          ap (λ (v : Vec ℕ Global). v.items) w.core-is ∙ c.loop-index.invariant ∙ sym (chosen-no test i (i + 1) next here)
    ]
