use Rattle.std.proofs.Common.{◌≡◌, ℕ, List, [], ◌++◌, true, subst, sym, ap, ◌∙◌, if◌then◌else◌}
use Rattle.std.specs.Prelude.{None, IfOk}
use Rattle.std.specs.List.{flat_map}
use Rattle.std.proofs.lemmas.List.{append-nil}
use Rattle.cudf_index.specs.Promises.Places.{gives_number, places_where}
use Rattle.cudf_index.specs.Satisfaction.{numbers_of}
use Rattle.cudf_referee.specs.Violations.{are_many}
use Rattle.cudf_job.specs.KeyViews.{key_view}
use Rattle.cudf_cnf.specs.Working.Collecting.{Outcome}
use Rattle.cudf_cnf.specs.Working.Parts.{differing_at, givers_of, keyed}
use Rattle.cudf_cnf.proofs.PlaceLemmas.{found_places}
use Rattle.cudf_cnf.proofs.rules.put_many.Goals as goal

pub put_each_differing-requires-clause-givers : goal.put_each_differing-requires-clause-givers
put_each_differing-requires-clause-givers c =
    found_places c.args.to.now.clauses.places (gives_number c.args.name.now None) c.args.all.now c.deref.result.now c.requires.fits (c.deref.ensures.value ∙ c.in_ok-all_giving.ensures)

pub returns-then-not-has_several-clause-outcome : goal.returns-then-not-has_several-clause-outcome
returns-then-not-has_several-clause-outcome c =
    let held = c.args.to.now.clauses.clauses in
    let same : [] ≡ givers_of c.args.all.now c.args.name.now = (λ i. if (sym c.if-not-has_several.true ∙ c.has_several.ensures) i then places_where (gives_number c.args.name.now None) c.args.all.now else []) in
    record { held = sym (append-nil held) ∙ ap (λ ns. held ++ keyed (key_view c.args.key) (flat_map (differing_at c.args.all.now c.args.name.now) ns)) same; fits = c.requires.room }

pub returns-clause-outcome : goal.returns-clause-outcome
returns-clause-outcome c =
    let all = c.args.all.now in
    let name = c.args.name.now in
    let several : are_many (numbers_of name all) ≡ true = sym c.has_several.ensures ∙ c.if-not-has_several.false in
    let same : c.deref.result.now ≡ givers_of all name = c.deref.ensures.value ∙ c.in_ok-all_giving.ensures ∙ (λ i. if sym several i then places_where (gives_number name None) all else []) in
    subst (λ (ns : List ℕ). IfOk c.put_each_differing.result (λ b. Outcome b (c.args.to.now.clauses.clauses ++ keyed (key_view c.args.key) (flat_map (differing_at all name) ns)) c.put_each_differing.new.to)) same c.put_each_differing.ensures.outcome
