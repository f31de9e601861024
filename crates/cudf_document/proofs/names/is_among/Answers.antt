use Rattle.std.proofs.Common.{List, ℕ, Bor, ◌||◌, bytes_eq, refl, ap, sym, ◌∙◌, arith}
use Rattle.std.specs.List.{list_any}
use Rattle.std.proofs.lemmas.List.{take_all}
use Rattle.std.proofs.lemmas.List.Folds.{list_any_more}
use Rattle.cudf_document.proofs.names.is_among.Goals as goal

pub loop-seen-init : goal.loop-seen-init
loop-seen-init c = refl

pub loop-seen-preserved : goal.loop-seen-preserved
loop-seen-preserved c =
    let same = λ (seen : Bor (List ℕ)). bytes_eq c.args.name.now seen.now in
    (λ i. c.loop-seen.invariant i || (sym c.if-are_equal.false ∙ c.are_equal.ensures) i)
    ∙ sym (list_any_more same c.args.names.now c.loop-seen.seen-index _ c.loop-seen-test.true)

pub returns : goal.returns
returns c =
    let same = λ (seen : Bor (List ℕ)). bytes_eq c.args.name.now seen.now in
    c.loop-seen.invariant ∙ ap (list_any same) (take_all c.loop-seen.seen-index c.args.names.now (omega arith))
