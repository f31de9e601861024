use Rattle.std.proofs.Common.{◌≡◌, ℕ, ◌==◌, not, List, [], ◌∷◌, map, filter, subst, sym, ap, ◌∙◌}
use Rattle.std.proofs.lemmas.List.Elements.{All-cons, All-nil}
use Rattle.cudf_value.specs.Promises.Views.{vpkg_view}
use Rattle.cudf_index.specs.Satisfaction.{meets_alone, without}
use Rattle.cudf_job.specs.KeyViews.{key_view}
use Rattle.cudf_job.specs.Keys.{part_place}
use Rattle.cudf_index.specs.Promises.Places.{places_where}
use Rattle.cudf_cnf.specs.Cnf.{is_out, none_of}
use Rattle.cudf_cnf.specs.Working.Parts.{ArePlaces, IsPlace, keyed}
use Rattle.cudf_cnf.proofs.PlaceLemmas.{all_others, others_where, pair, pairs_where, put_as}
use Rattle.cudf_cnf.proofs.rules.put_conflict.Goals as goal

pub put_pairs_out-requires-clause-first : goal.put_pairs_out-requires-clause-first
put_pairs_out-requires-clause-first c =
    let places = c.args.clauses.now.places in
    All-cons (IsPlace places) c.place_of-place.result [] (subst (IsPlace places) (sym c.place_of-place.ensures) c.requires.place) (All-nil (IsPlace places))

pub put_pairs_out-requires-clause-places : goal.put_pairs_out-requires-clause-places
put_pairs_out-requires-clause-places c =
    let place = c.place_of-place.result in
    let test = meets_alone (vpkg_view c.args.vpkg.now) in
    let all = c.args.all.now in
    let read : c.deref.result.now ≡ filter (λ n. not (n == place)) (places_where test all) = c.deref.ensures.value ∙ c.take_out.ensures ∙ ap (filter (λ (n : ℕ). not (n == place))) c.in_ok-all_meeting.ensures in
    subst (λ (ns : List ℕ). ArePlaces c.args.clauses.now.places ns) (sym read) (all_others (IsPlace c.args.clauses.now.places) place test all c.requires.fits)

pub returns-clause-put : goal.returns-clause-put
returns-clause-put c =
    let own = c.place_of-place.result in
    let place = part_place (key_view c.args.key).part in
    let key = key_view c.args.key in
    let test = meets_alone (vpkg_view c.args.vpkg.now) in
    let all = c.args.all.now in
    let read : c.deref.result.now ≡ places_where test (without own all) = c.deref.ensures.value ∙ c.take_out.ensures ∙ ap (filter (λ (n : ℕ). not (n == own))) c.in_ok-all_meeting.ensures ∙ others_where own test all in
    put_as c.put_pairs_out.result c.put_pairs_out.new.clauses.clauses c.args.clauses.now.clauses (map (pair key own) c.deref.result.now) (keyed key (none_of (is_out place ∷ []) test (without place all)))
    (ap (map (pair key own)) read ∙ pairs_where key own test (without own all) ∙ (λ i. keyed key (none_of (is_out (c.place_of-place.ensures i) ∷ []) test (without (c.place_of-place.ensures i) all))))
    c.put_pairs_out.ensures.put
