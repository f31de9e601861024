use Rattle.std.proofs.Common.{◌+◌, ◌<◌, map, refl, ap, sym, ◌∙◌, arith, subst}
use Rattle.cudf_referee.specs.Promises.Views.{instance_view}
use Rattle.cudf_referee.specs.Promises.Walks.{Walking}
use Rattle.cudf_referee.specs.Working.Searches.{Comes}
use Rattle.cudf_referee.proofs.ComesLemmas.{comes-unknown}
use Rattle.std.specs.Prelude.{slice_get}
use Rattle.cudf_problem.specs.Promises.Views.{unknown_view}
use Rattle.cudf_problem.specs.Statuses.{PlainUnknown}
use Rattle.cudf_referee.specs.Working.Searches.{unknown_rest}
use Rattle.cudf_referee.specs.Working.Walkers.{put_forward}
use Rattle.cudf_referee.specs.Promises.PositionViews.{position_view}
use Rattle.cudf_referee.proofs.ListingLemmas.{all_numbered}
use Rattle.cudf_referee.proofs.MoveLemmas.{walking}
use Rattle.cudf_referee.proofs.SearchLemmas.{item-some, seen-item, all-at, searches-same, unknown-found}
use Rattle.cudf_referee.proofs.referee.instances.Instances.search_unknown.Goals as goal

pub of_unknown-requires : goal.of_unknown-requires
of_unknown-requires c =
    let us = map unknown_view c.self.inside.solution.now.unknown.items in
    all-at (λ (u : PlainUnknown). 0 < u.stanza) us c.args.first.now (unknown_view c.in-Some.stanza.now)
    (ap (λ xs. slice_get (map unknown_view xs) c.args.first.now) (sym c.deref.ensures.value)
    ∙ seen-item unknown_view c.deref.result.now c.args.first.now c.in-Some.stanza.now (item-some c.deref.result.now c.args.first.now c.in-Some.stanza c.in-Some.ensures.lookup))
    (all_numbered 0 us c.self.invariant.0.ascends)

pub returns-in-Some-clause-searches : goal.returns-in-Some-clause-searches
returns-in-Some-clause-searches c =
    let i = c.self.inside in
    let us = map unknown_view i.solution.now.unknown.items in
    let judged = put_forward i.problem.now i.now.status us in
    let position = position_view i.position in
    searches-same _ _ _ (λ s. unknown_rest s c.args.first.now) _ c.self.view_is
    (unknown-found (walking judged position (i.now.steps + i.steps)) (walking judged position (i.now.steps + c.tick.new.self)) c.args.first.now (unknown_view c.in-Some.stanza.now) _ refl refl
    (ap (λ xs. slice_get (map unknown_view xs) c.args.first.now) (sym c.deref.ensures.value)
    ∙ seen-item unknown_view c.deref.result.now c.args.first.now c.in-Some.stanza.now (item-some c.deref.result.now c.args.first.now c.in-Some.stanza c.in-Some.ensures.lookup))
    c.of_unknown.ensures (omega (arith, c.tick.ensures)))

pub returns-in-Some-clause-comes : goal.returns-in-Some-clause-comes
returns-in-Some-clause-comes c =
    let i = c.self.inside in
    let us = map unknown_view i.solution.now.unknown.items in
    subst (λ (w : Walking). Comes (unknown_rest w.judged c.args.first.now) (instance_view c.of_unknown.result) (unknown_rest w.judged (c.args.first.now + 1))) c.self.view_is
    (comes-unknown (put_forward i.problem.now i.now.status us) c.args.first.now (unknown_view c.in-Some.stanza.now) _
    (ap (λ xs. slice_get (map unknown_view xs) c.args.first.now) (sym c.deref.ensures.value)
    ∙ seen-item unknown_view c.deref.result.now c.args.first.now c.in-Some.stanza.now (item-some c.deref.result.now c.args.first.now c.in-Some.stanza c.in-Some.ensures.lookup))
    c.of_unknown.ensures)
