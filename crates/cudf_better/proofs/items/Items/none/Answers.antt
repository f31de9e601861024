use Rattle.std.proofs.Common.{[], ap, arith, get_or, length, sym, ◌<◌, ◌∙◌, List}
use Rattle.cudf_lrat.specs.Lists.{lists_in}
use Rattle.cudf_better.specs.Better.{Item, item}
use Rattle.cudf_better.proofs.ItemLemmas.{items_at, items_length}
use Rattle.cudf_better.proofs.items.Items.none.Goals as goal

pub get-requires : goal.get-requires
get-requires c = omega (arith, c.requires, items_length (lists_in c.self.inside.some) (lists_in c.self.inside.none) c.self.invariant, ap length c.self.view_is, c.self.invariant)

pub returns : goal.returns
returns c =
    let some = lists_in c.self.inside.some in
    let none = lists_in c.self.inside.none in
    let i = c.args.index in
    let inside : i < length some = omega (arith, c.requires, items_length some none c.self.invariant, ap length c.self.view_is) in
    c.get.ensures ∙ sym (ap (λ (x : Item). x.none) (items_at some none i c.self.invariant inside)) ∙ ap (λ (xs : List Item). (get_or xs i (item [] [])).none) c.self.view_is
