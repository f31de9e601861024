use Rattle.std.proofs.Common.{◌≡◌, List, ◌++◌, ◌+◌, refl, subst, sym, ap, ◌∙◌, get_or, drop}
use Rattle.std.specs.List.{flat_map}
use Rattle.std.proofs.lemmas.List.{take_all}
use Rattle.cudf_job.specs.KeyViews.{key_view}
use Rattle.cudf_cnf.specs.Cnf.{Keyed}
use Rattle.cudf_cnf.specs.Working.Parts.{Fits, differing_at, keyed}
use Rattle.cudf_cnf.proofs.CollectorLemmas.{has_space, next_place, no_space, rest_of, too_many}
use Rattle.cudf_cnf.proofs.rules.put_each_differing.Goals as goal

pub put_differing-requires-clause-fits : goal.put_differing-requires-clause-fits
put_differing-requires-clause-fits c = subst (λ places. Fits places c.args.all.now) (sym c.loop-place.invariant.same.places) c.requires.fits

pub loop-place-preserved : goal.loop-place-preserved
loop-place-preserved c =
    let make = differing_at c.args.all.now c.args.name.now in
    let before = c.loop-place.invariant in
    record {
      held = c.in_ok-put_differing.ensures.put ∙ ap (λ (ks : List Keyed). ks ++ keyed (key_view c.args.key) (make (get_or c.args.givers.now c.loop-place.place-index 0))) before.held
          ∙ next_place (key_view c.args.key) make c.args.to.now.clauses.clauses c.args.givers.now c.loop-place.place-index _ c.loop-place-test.true refl;
      fits = has_space c.has_room.result _ _ c.if-not-has_room.false c.has_room.ensures;
      same = record { places = c.put_differing.ensures.places ∙ before.same.places; room = before.same.room };
    }

pub returns-then-not-has_room-clause-outcome : goal.returns-then-not-has_room-clause-outcome
returns-then-not-has_room-clause-outcome c =
    let key = key_view c.args.key in
    let make = differing_at c.args.all.now c.args.name.now in
    let i = c.loop-place.place-index in
    let ns = c.args.givers.now in
    let old = c.args.to.now.clauses.clauses in
    let held : c.put_differing.new.clauses.clauses ++ keyed key (flat_map make (drop (i + 1) ns)) ≡ old ++ keyed key (flat_map make ns) =
    ap (λ (ks : List Keyed). ks ++ keyed key (flat_map make (drop (i + 1) ns))) (c.in_ok-put_differing.ensures.put ∙ ap (λ (ks : List Keyed). ks ++ keyed key (make (get_or ns i 0))) c.loop-place.invariant.held
    ∙ next_place key make old ns i _ c.loop-place-test.true refl) ∙ rest_of key make old ns (i + 1) in
    too_many c.put_differing.new.clauses.clauses (keyed key (flat_map make (drop (i + 1) ns))) (old ++ keyed key (flat_map make ns)) c.loop-place.to held
    (no_space c.has_room.result _ _ c.if-not-has_room.true c.has_room.ensures)

pub returns-clause-outcome : goal.returns-clause-outcome
returns-clause-outcome c = record {
  held = c.loop-place.invariant.held ∙ ap (λ ns. c.args.to.now.clauses.clauses ++ keyed (key_view c.args.key) (flat_map (differing_at c.args.all.now c.args.name.now) ns)) (take_all c.loop-place.place-index c.args.givers.now c.loop-place-test.false);
  fits = c.loop-place.invariant.fits;
}
