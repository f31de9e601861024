use Rattle.std.proofs.Common.{refl, ◌++◌, map, ap, sym, ◌∙◌}
use Rattle.std.specs.Prelude.{option_map}
use Rattle.cudf_job.specs.KeyViews.{key_view}
use Rattle.cudf_index.specs.Promises.Places.{is_named}
use Rattle.cudf_cnf.specs.Cnf.{is_in, is_subject, one_of}
use Rattle.cudf_cnf.specs.Encodings.{PlainKeyedClauses}
use Rattle.cudf_cnf.proofs.PlaceLemmas.{found_places, no_subject, one_of-where, one_put, when}
use Rattle.cudf_cnf.proofs.rules.put_named.Goals as goal

pub put_one_of-requires-clause-places : goal.put_one_of-requires-clause-places
put_one_of-requires-clause-places c =
    found_places c.args.clauses.now.places (is_named c.in-Some.name.now) c.args.all.now c.deref.result.now c.requires (c.deref.ensures.value ∙ c.in_ok-all_named.ensures)

pub returns-in_default-clause-put : goal.returns-in_default-clause-put
returns-in_default-clause-put c =
    when c.push.result c.push.ensures.ok
    (λ e. no_subject (key_view c.args.key) c.args.all.now (option_map (λ s. (s.0.now, s.1)) c.args.subject) c.args.clauses.now.clauses c.push.new.self.clauses (ap (option_map (λ s. (s.0.now, s.1))) c.in_default.is) (ap (λ (h : PlainKeyedClauses). h.clauses) e))

pub returns-clause-put : goal.returns-clause-put
returns-clause-put c =
    let test = is_named c.in-Some.name.now in
    let all = c.args.all.now in
    one_put c.put_one_of.result c.put_one_of.new.clauses.clauses c.args.clauses.now.clauses (key_view c.args.key) (key_view c.args.key) (c.clear.new.self.items ++ map is_in c.deref.result.now) (one_of (is_subject (option_map (λ s. (s.0.now, s.1)) c.args.subject)) all)
    refl ((λ i. c.clear.ensures.items i ++ map is_in ((c.deref.ensures.value ∙ c.in_ok-all_named.ensures) i)) ∙ one_of-where test all ∙ ap (λ o. one_of (is_subject (option_map (λ s. (s.0.now, s.1)) o)) all) (sym c.in-Some.is)) c.put_one_of.ensures.put
