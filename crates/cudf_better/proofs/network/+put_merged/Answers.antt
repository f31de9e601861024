use Rattle.std.proofs.Common.{ℕ, ◌-◌, [], ap, arith, drop, subst, sym, take, ◌∙◌}
use Rattle.std.proofs.lemmas.Result.{IfOk-weaker}
use Rattle.std.specs.Prelude.{IfOk}
use Rattle.cudf_better.specs.Cardinality.{Network, compared, evens, merged}
use Rattle.cudf_better.specs.Working.Definitions.{Puts}
use Rattle.cudf_better.proofs.PutLemmas.{compared_same, merged_direct, merged_joined, merged_left, merged_right, put_in_turn, put_nothing}
use Rattle.cudf_better.proofs.network.+put_merged.Goals as goal

pub returns-then-xs-eq0 : goal.returns-then-xs-eq0
returns-then-xs-eq0 t c =
    let g = c.args.definitions.now in
    IfOk-weaker c.copied.result _ _ (λ copy is. put_nothing (merged c.args.most c.args.depth g.next c.args.xs.now c.args.ys.now) g copy.items c.args.ys.now (merged_left c.args.most c.args.depth g.next c.args.xs.now c.args.ys.now (omega arith)) is) c.copied.ensures

pub returns-then-ys-eq0 : goal.returns-then-ys-eq0
returns-then-ys-eq0 t c =
    let g = c.args.definitions.now in
    IfOk-weaker c.copied-then-ys-eq0.result _ _ (λ copy is. put_nothing (merged c.args.most c.args.depth g.next c.args.xs.now c.args.ys.now) g copy.items c.args.xs.now (merged_right c.args.most c.args.depth g.next c.args.xs.now c.args.ys.now (omega arith) (omega arith)) is) c.copied-then-ys-eq0.ensures

pub returns-then-is_direct : goal.returns-then-is_direct
returns-then-is_direct t c =
    let g = c.args.definitions.now in
    subst (λ (s : Network). IfOk c.put_added.result (λ outputs. Puts s g [] c.put_added.new.definitions outputs.items))
    (sym (merged_direct c.args.most c.args.depth g.next c.args.xs.now c.args.ys.now (omega arith) (omega arith) (sym c.is_direct.ensures ∙ c.if-is_direct.true))) c.put_added.ensures

pub returns : goal.returns
returns t c =
    let g0 = c.args.definitions.now in
    let g1 = c.put_merged.new.definitions in
    let g2 = c.put_merged-2.new.definitions in
    let g3 = c.put_last.new.definitions in
    let most = c.args.most in
    let depth = c.args.depth - 1 in
    let front = c.in_ok-even.even.items in
    let back = c.in_ok-odd.odd.items in
    let even_xs = c.deref.ensures.value ∙ c.in_ok-even_xs.ensures in
    let even_ys = c.deref-2.ensures.value ∙ c.in_ok-even_ys.ensures in
    let odd_xs = c.deref-3.ensures.value ∙ c.in_ok-odd_xs.ensures in
    let odd_ys = c.deref-4.ensures.value ∙ c.in_ok-odd_ys.ensures in
    let one = subst (λ (s : Network). Puts s g0 [] g1 front) (λ i. merged most depth g0.next (even_xs i) (even_ys i)) c.in_ok-even.ensures in
    let two = subst (λ (s : Network). Puts s g1 [] g2 back) (λ i. merged most depth g1.next (odd_xs i) (odd_ys i)) c.in_ok-odd.ensures in
    let whole = merged_joined most c.args.depth g0.next c.args.xs.now c.args.ys.now (omega arith) (omega arith) (sym c.is_direct.ensures ∙ c.if-is_direct.false) in
    let even = merged most depth g0.next (evens c.args.xs.now) (evens c.args.ys.now) in
    let odd = λ (n : ℕ). merged most depth n (evens (drop 1 c.args.xs.now)) (evens (drop 1 c.args.ys.now)) in
    IfOk-weaker c.put_last.result _ _
    (λ outputs last.
    subst (λ (s : Network). Puts s g0 [] g3 outputs.items) (sym whole)
    (put_in_turn g0 g1 g2 g3 front back outputs.items even odd (λ n evens odds. compared n odds (drop 1 evens)) (take 1) one two
    (compared_same g2 g3 c.deref-6.result.now back (drop 1 c.deref-5.result.now) (drop 1 front) (take 1 c.deref-5.result.now) (take 1 front) outputs.items c.deref-6.ensures.value (ap (drop 1) c.deref-5.ensures.value) (ap (take 1) c.deref-5.ensures.value) last)))
    c.put_last.ensures
