use Rattle.std.proofs.Common.{◌∷◌, [], ◌++◌, cond, map, sym, ap, ◌∙◌}
use Rattle.cudf_index.specs.Promises.Places.{is_named}
use Rattle.cudf_cnf.specs.Cnf.{is_in}
use Rattle.cudf_cnf.proofs.PlaceLemmas.{when}
use Rattle.cudf_better.specs.Better.{Item, has_item}
use Rattle.cudf_better.proofs.SourceLemmas.{has_put, small_places}
use Rattle.cudf_better.proofs.items.add_has.Goals as goal

pub add_places-requires : goal.add_places-requires
add_places-requires c =
    let s = c.args.source.now in
    small_places s.problem.now.packages s.all (is_named c.args.name.now) c.deref.result.now s.every s.few (c.deref.ensures.value ∙ c.in_ok-all_named.ensures)

pub returns : goal.returns
returns c =
    let s = c.args.source.now in
    let name = c.args.name.now in
    let old = c.args.items.now in
    let made = has_put s.problem.now s.all c.deref.result.now c.deref-2.result.now name s.every (c.deref.ensures.value ∙ c.in_ok-all_named.ensures)
    (c.deref-2.ensures.value ∙ c.in_ok-add_places.ensures ∙ ap (λ ls. ls ++ map is_in c.deref.result.now) c.new-some.ensures.items) in
    when c.push.result c.push.ensures
    (λ e. e ∙ ap (λ (i : Item). old ++ i ∷ []) made ∙ ap (λ b. old ++ cond b (has_item s.problem.now name ∷ []) []) (sym c.if-not-is_wanted.false))
