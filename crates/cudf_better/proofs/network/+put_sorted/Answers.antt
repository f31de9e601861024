use Rattle.std.proofs.Common.{◌≡◌, ◌-◌, ◌^◌, [], ap, arith, drop, subst, sym, take, ◌∙◌, List, ℕ}
use Rattle.std.specs.Prelude.{IfOk}
use Rattle.std.proofs.lemmas.List.{drop_all, drop-drop, length-drop, length-take}
use Rattle.std.proofs.lemmas.Result.{IfOk-weaker}
use Rattle.cudf_better.specs.Cardinality.{Dnf, Network, merged, sorted}
use Rattle.cudf_better.specs.Working.Definitions.{Puts}
use Rattle.cudf_better.proofs.PutLemmas.{in_turn, power_twice, put_cut, put_in_turn, put_nothing, sorted_nothing, sorted_one, sorted_part}
use Rattle.cudf_better.proofs.network.+put_sorted.Goals as goal

pub returns-then-index-len-clause-sorted : goal.returns-then-index-len-clause-sorted
returns-then-index-len-clause-sorted t c =
    let g = c.args.definitions.now in
    let fs = c.args.formulas.now in
    let part = take (2 ^ c.args.depth) (drop c.args.at.now fs) in
    put_nothing (sorted c.args.most c.args.depth g.next part) g c.new.result.items []
    (sorted_nothing c.args.most c.args.depth g.next part (omega (arith, length-take (2 ^ c.args.depth) (drop c.args.at.now fs), length-drop c.args.at.now fs))) c.new.ensures.items

pub returns-then-index-len-clause-at : goal.returns-then-index-len-clause-at
returns-then-index-len-clause-at t c =
    let fs = c.args.formulas.now in
    drop_all c.args.at.now fs (omega arith) ∙ sym (drop_all (2 ^ c.args.depth) (drop c.args.at.now fs) (omega (arith, length-drop c.args.at.now fs)))

pub returns-then-depth-eq0-clause-sorted : goal.returns-then-depth-eq0-clause-sorted
returns-then-depth-eq0-clause-sorted t c =
    let g = c.args.definitions.now in
    subst (λ (s : Network). IfOk c.put_one.result (λ outputs. Puts s g [] c.put_one.new.definitions outputs.items))
    (sym (sorted_one c.args.most c.args.depth g.next c.args.at.now c.args.formulas.now (omega arith) (omega arith))) c.put_one.ensures

pub returns-then-depth-eq0-clause-at : goal.returns-then-depth-eq0-clause-at
returns-then-depth-eq0-clause-at t c =
    let fs = c.args.formulas.now in
    let none : 0 ≡ c.args.depth = omega arith in
    IfOk-weaker c.put_one.result _ _ (λ outputs put. sym (drop-drop 1 c.args.at.now fs) ∙ ap (λ (d : ℕ). drop (2 ^ d) (drop c.args.at.now fs)) none) c.put_one.ensures

pub returns-clause-sorted : goal.returns-clause-sorted
returns-clause-sorted t c =
    let g0 = c.args.definitions.now in
    let g1 = c.put_sorted.new.definitions in
    let g2 = c.put_sorted-2.new.definitions in
    let g3 = c.put_merged.new.definitions in
    let most = c.args.most in
    let d = c.args.depth - 1 in
    let p = 2 ^ d in
    let rest = drop c.args.at.now c.args.formulas.now in
    let left = c.in_ok-left.left.items in
    let right = c.in_ok-right.right.items in
    let two = subst (λ (fs : List Dnf). Puts (sorted most d g1.next (take p fs)) g1 [] g2 right) c.in_ok-left.ensures.at c.in_ok-right.ensures.sorted in
    let three = subst (λ (xs : List ℕ). Puts (merged most d g2.next xs right) g2 [] g3 c.in_ok-outputs.outputs.items) c.deref.ensures.value
    (subst (λ (ys : List ℕ). Puts (merged most d g2.next c.deref.result.now ys) g2 [] g3 c.in_ok-outputs.outputs.items) c.deref-2.ensures.value c.in_ok-outputs.ensures) in
    let whole = sorted_part most c.args.depth g0.next rest (omega arith) in
    let both = put_in_turn g0 g1 g2 g3 left right c.in_ok-outputs.outputs.items (sorted most d g0.next (take p rest)) (λ n. sorted most d n (take p (drop p rest))) (merged most d) (λ ps. []) c.in_ok-left.ensures.sorted two three in
    subst (λ (ps : List ℕ). Puts (sorted most c.args.depth g0.next (take (2 ^ c.args.depth) rest)) g0 [] g3 ps) (sym c.truncate.ensures.items)
    (subst (λ (s : Network). Puts s g0 [] g3 (take most c.in_ok-outputs.outputs.items)) (sym whole)
    (put_cut most (in_turn g0.next (sorted most d g0.next (take p rest)) (λ n. sorted most d n (take p (drop p rest))) (merged most d) (λ ps. [])) g0 g3 c.in_ok-outputs.outputs.items both))

pub returns-clause-at : goal.returns-clause-at
returns-clause-at t c =
    let p = 2 ^ (c.args.depth - 1) in
    let rest = drop c.args.at.now c.args.formulas.now in
    c.in_ok-right.ensures.at ∙ ap (drop p) c.in_ok-left.ensures.at ∙ drop-drop p p rest ∙ ap (λ (n : ℕ). drop n rest) (sym (power_twice c.args.depth (omega arith)))
