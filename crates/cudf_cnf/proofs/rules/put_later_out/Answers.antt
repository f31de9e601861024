use Rattle.std.proofs.Common.{◌≡◌, ℕ, nat_lt, List, map, filter, ap, sym, subst, rules, ◌∙◌}
use Rattle.std.proofs.lemmas.Fn.{filter_same}
use Rattle.std.proofs.lemmas.List.Elements.{All-filter}
use Rattle.cudf_job.specs.KeyViews.{key_view}
use Rattle.cudf_cnf.specs.Working.Parts.{ArePlaces, IsPlace}
use Rattle.cudf_cnf.proofs.PlaceLemmas.{pair, put_as}
use Rattle.cudf_cnf.proofs.rules.put_later_out.Goals as goal

pub put_pairs_out-requires-clause-places : goal.put_pairs_out-requires-clause-places
put_pairs_out-requires-clause-places c =
    let read : c.deref.result.now ≡ filter (λ n. nat_lt c.args.first n) c.args.places.now.items = c.deref.ensures.value ∙ filter_same _ _ _ (λ x b f' k. search rules) _ _ c.retain.ensures.filtered in
    subst (λ (ns : List ℕ). ArePlaces c.args.clauses.now.places ns) (sym read) (All-filter (λ n. nat_lt c.args.first n) (IsPlace c.args.clauses.now.places) c.args.places.now.items c.requires.places)

pub returns-clause-put : goal.returns-clause-put
returns-clause-put c =
    let later = filter (λ n. nat_lt c.args.first n) c.args.places.now.items in
    let read : c.deref.result.now ≡ later = c.deref.ensures.value ∙ filter_same _ _ _ (λ x b f' k. search rules) _ _ c.retain.ensures.filtered in
    put_as c.put_pairs_out.result c.put_pairs_out.new.clauses.clauses c.args.clauses.now.clauses (map (pair (key_view c.args.key) c.args.first) c.deref.result.now) (map (pair (key_view c.args.key) c.args.first) later)
    (ap (map (pair (key_view c.args.key) c.args.first)) read) c.put_pairs_out.ensures.put
