use Rattle.std.proofs.Common.{◌∷◌, [], ◌++◌, map, ap, ◌∙◌}
use Rattle.cudf_index.specs.Promises.Places.{is_named}
use Rattle.cudf_cnf.proofs.PlaceLemmas.{when}
use Rattle.cudf_better.specs.Better.{Item}
use Rattle.cudf_better.specs.Working.Sources.{change_at}
use Rattle.cudf_better.proofs.SourceLemmas.{changed_put, small_places}
use Rattle.cudf_better.proofs.items.add_changed.Goals as goal

pub add_changes-requires : goal.add_changes-requires
add_changes-requires c =
    let s = c.args.source.now in
    small_places s.problem.now.packages s.all (is_named c.args.name.now) c.deref.result.now s.every s.few (c.deref.ensures.value ∙ c.in_ok-all_named.ensures)

pub returns : goal.returns
returns c =
    let s = c.args.source.now in
    let old = c.args.items.now in
    let made = changed_put s.problem.now s.all c.deref.result.now c.deref-2.result.now c.args.name.now s.every (c.deref.ensures.value ∙ c.in_ok-all_named.ensures)
    (c.deref-2.ensures.value ∙ c.in_ok-add_changes.ensures ∙ ap (λ ls. ls ++ map (change_at s.problem.now) c.deref.result.now) c.new-some.ensures.items) in
    when c.push.result c.push.ensures (λ e. e ∙ ap (λ (i : Item). old ++ i ∷ []) made)
