use Rattle.std.proofs.Common.{◌≡◌, ℕ, nat_lt, true, false, List, [], ◌∷◌, ◌++◌, Some, None, map, filter, ap, sym, subst, append_assoc, refl, ◌∙◌}
use Rattle.std.proofs.lemmas.List.{append-nil}
use Rattle.cudf_value.specs.declared.vpkg.Relop.TheVariants.{Neq}
use Rattle.cudf_index.specs.Promises.Places.{gives_number, places_where}
use Rattle.cudf_index.specs.Working.Places.{has}
use Rattle.cudf_job.specs.KeyViews.{key_view}
use Rattle.cudf_lrat.specs.declared.cnf.Literal.{Literal}
use Rattle.cudf_cnf.specs.Cnf.{Keyed}
use Rattle.cudf_cnf.specs.Encodings.{PlainKeyedClauses}
use Rattle.cudf_cnf.specs.Working.Parts.{ArePlaces, differing_at, keyed}
use Rattle.cudf_cnf.proofs.ManyLemmas.{several_at, silent_at, single_at}
use Rattle.cudf_cnf.proofs.PlaceLemmas.{found_places, pair, put_as, when}
use Rattle.cudf_cnf.proofs.rules.put_differing.Goals as goal

pub returns-in_default-clause-put : goal.returns-in_default-clause-put
returns-in_default-clause-put c =
    sym (append-nil c.args.clauses.now.clauses)
    ∙ ap (λ (ks : List Keyed). c.args.clauses.now.clauses ++ ks) (silent_at c.args.all.now c.args.name.now c.args.place (key_view c.args.key) (c.in_default.ensures.none.0 refl))

pub put_later_out-requires-clause-places : goal.put_later_out-requires-clause-places
put_later_out-requires-clause-places c =
    subst (λ (places : ℕ). ArePlaces places c.all_giving-then-contains.new.places.items) (sym (ap (λ (h : PlainKeyedClauses). h.places) c.in_ok-push.ensures.ok))
    (found_places c.args.clauses.now.places (gives_number c.args.name.now None) c.args.all.now c.all_giving-then-contains.new.places.items c.requires.fits c.in_ok-all_giving-2.ensures)

pub put_later_out-requires-2-clause-places : goal.put_later_out-requires-2-clause-places
put_later_out-requires-2-clause-places c =
    found_places c.args.clauses.now.places (gives_number c.args.name.now (Some (Neq, c.in-Some.number))) c.args.all.now c.all_giving.new.places.items c.requires.fits c.in_ok-all_giving.ensures

pub returns-then-contains-clause-put : goal.returns-then-contains-clause-put
returns-then-contains-clause-put c =
    let all = c.args.all.now in
    let name = c.args.name.now in
    let place = c.args.place in
    let held = c.args.clauses.now.clauses in
    let key = key_view c.args.key in
    let there : has (places_where (gives_number name (Some (Neq, c.in-Some.number))) all) place ≡ true =
    ap (λ (ns : List ℕ). has ns place) (sym (c.deref.ensures.value ∙ c.in_ok-all_giving.ensures)) ∙ sym c.contains.ensures.value ∙ c.if-contains.true in
    let pairs = map (pair key place) (filter (λ (m : ℕ). nat_lt place m) c.all_giving-then-contains.new.places.items) in
    when c.put_later_out.result c.put_later_out.ensures.put
    (λ (e : c.put_later_out.new.clauses.clauses ≡ c.push.new.self.clauses ++ pairs). e ∙ ap (λ (h : PlainKeyedClauses). h.clauses ++ pairs) c.in_ok-push.ensures.ok ∙ append_assoc held ((key, c.negative_literal.result ∷ []) ∷ []) pairs
    ∙ ap (λ (l : Literal). held ++ ((key, l ∷ []) ∷ pairs)) c.negative_literal.ensures
    ∙ ap (λ (ks : List Keyed). held ++ ks) (several_at all name place key c.in-Some.number c.in-Some.ensures.among c.all_giving-then-contains.new.places.items there c.in_ok-all_giving-2.ensures))

pub returns-clause-put : goal.returns-clause-put
returns-clause-put c =
    let all = c.args.all.now in
    let name = c.args.name.now in
    let place = c.args.place in
    let key = key_view c.args.key in
    let found = c.all_giving.new.places.items in
    let absent : has (places_where (gives_number name (Some (Neq, c.in-Some.number))) all) place ≡ false =
    ap (λ (ns : List ℕ). has ns place) (sym (c.deref.ensures.value ∙ c.in_ok-all_giving.ensures)) ∙ sym c.contains.ensures.value ∙ c.if-contains.false in
    put_as c.put_later_out-2.result c.put_later_out-2.new.clauses.clauses c.args.clauses.now.clauses (map (pair key place) (filter (λ (m : ℕ). nat_lt place m) found)) (keyed key (differing_at all name place))
    (single_at all name place key c.in-Some.number c.in-Some.ensures.among found absent c.in_ok-all_giving.ensures) c.put_later_out-2.ensures.put
