use Rattle.std.proofs.Common.{◌∷◌, [], ◌++◌, List, sym, ap, ◌∙◌}
use Rattle.cudf_lrat.specs.Lists.{lists_in}
use Rattle.cudf_cnf.proofs.HeldLemmas.{when_ok}
use Rattle.cudf_better.specs.Better.{Item, item}
use Rattle.cudf_better.specs.Working.Definitions.{items_of}
use Rattle.cudf_better.proofs.ItemLemmas.{items_push}
use Rattle.cudf_better.proofs.items.Items.push.Goals as goal

pub returns : goal.returns
returns c =
    let s = c.args.some.now in
    let n = c.args.none.now in
    let one = c.in_ok-push.ensures.ok in
    let two = when_ok c.push-2.result (sym c.if-is_err.ensures.value) c.push-2.ensures.ok in
    (λ i. items_of (one i) (two i)) ∙ items_push (lists_in c.self.inside.some) (lists_in c.self.inside.none) s n c.self.invariant ∙ ap (λ (xs : List Item). xs ++ item s n ∷ []) c.self.view_is
