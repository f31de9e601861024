use Rattle.std.proofs.Common.{List, ℕ, Bor, ◌||◌, not, bytes_eq, refl, ap, sym, ◌∙◌, arith}
use Rattle.std.specs.List.{list_any}
use Rattle.std.proofs.lemmas.List.{take_all}
use Rattle.std.proofs.lemmas.List.Folds.{list_any_more}
use Rattle.cudf_document.proofs.declarations.lacks_one.Goals as goal

pub loop-name-init : goal.loop-name-init
loop-name-init c = refl

pub loop-name-preserved : goal.loop-name-preserved
loop-name-preserved c =
    let lacks = λ (name : Bor (List ℕ)). not (list_any (bytes_eq name.now) c.args.seen.now) in
    (λ i. c.loop-name.invariant i || ap not (sym c.if-not-contains.false ∙ c.contains.ensures) i)
    ∙ sym (list_any_more lacks c.args.required.now c.loop-name.name-index _ c.loop-name-test.true)

pub returns : goal.returns
returns c =
    let lacks = λ (name : Bor (List ℕ)). not (list_any (bytes_eq name.now) c.args.seen.now) in
    c.loop-name.invariant ∙ ap (list_any lacks) (take_all c.loop-name.name-index c.args.required.now (omega arith))
