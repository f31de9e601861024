use Rattle.std.proofs.Common.{◌≡◌, true, option_map, ap, sym, ◌∙◌, subst}
use Rattle.cudf_problem.specs.Statuses.{ascend_above}
use Rattle.cudf_referee.specs.Proposals.{Proposal}
use Rattle.cudf_referee.specs.Promises.PositionViews.{position_view}
use Rattle.cudf_referee.specs.Promises.Views.{instance_view}
use Rattle.cudf_referee.specs.Promises.Walks.{Walking}
use Rattle.cudf_referee.specs.Working.Places.{IsFitting, ahead}
use Rattle.cudf_referee.specs.Working.Located.{IsStopLocated}
use Rattle.cudf_referee.specs.Working.Searches.{Searches, ComesTo, stops_from, first_given}
use Rattle.cudf_referee.proofs.ComesLemmas.{left-ahead}
use Rattle.cudf_referee.proofs.SearchLemmas.{or_later-none}
use Rattle.std.specs.Prelude.{All}
use Rattle.std.proofs.lemmas.List.Elements.{All-filter}
use Rattle.cudf_referee.specs.Promises.Stops.{is_ahead, walk}
use Rattle.cudf_referee.proofs.MoveLemmas.{searched, moved-on}
use Rattle.cudf_referee.proofs.LocatedLemmas.{all-located}
use Rattle.cudf_referee.proofs.referee.instances.InstancesIterator.next.Goals as goal

pub search-found-requires : goal.search-found-requires
search-found-requires c =
    let old = c.args.self.now in
    subst (All (IsStopLocated old.judged)) (sym (subst (λ (w : Walking). stops_from w.judged c.self.inside.cursor ≡ ahead w.judged w.position) c.self.view_is c.self.invariant.2))
    (All-filter (is_ahead old.position) (IsStopLocated old.judged) (walk old.judged) (all-located old.judged))

pub invariant_of-self : goal.invariant_of-self
invariant_of-self c =
    let old = c.args.self.now in
    let s = old.judged in
    let found = option_map instance_view c.search-found.result in
    let there = c.position_behind-self-inside.ensures.position in
    let cursor = c.search-found.new.cursor in
    let searches = c.search-found.ensures.searches in
    let same = ap (λ (w : Walking). w.judged) c.self-2.view_is ∙ searches.judged in
    let here = subst (λ (w : Walking). stops_from w.judged c.self.inside.cursor ≡ ahead w.judged w.position) c.self.view_is c.self.invariant.2 in
    let first : first_given s (ahead s old.position) ≡ found = ap (first_given s) (sym here) ∙ searches.given ∙ or_later-none found in
    let left =
    left-ahead s old.position found (stops_from s cursor) (subst (λ (t : Proposal). ascend_above 0 t.unknown ≡ true) same c.self-2.invariant.0.ascends) first
    (subst (λ l. ComesTo l found (stops_from s cursor)) here c.search-found.ensures.comes) in (
      c.self-2.invariant.0,
      subst IsFitting (sym there) c.position_behind-self-inside.ensures.fits,
      subst (λ (t : Proposal). stops_from t cursor ≡ ahead t (position_view c.position_behind-self-inside.result)) (sym same) (left ∙ ap (ahead s) (sym there)),
    )

pub returns-clause-steps : goal.returns-clause-steps
returns-clause-steps c =
    let old = c.args.self.now in
    searched _ c.search-found.new.self _ _
    (subst (λ (s : Proposal). ascend_above 0 s.unknown ≡ true) (ap (λ (w : Walking). w.judged) c.self.view_is) c.self.invariant.0.ascends)
    (subst (λ l. Searches old l (option_map instance_view c.search-found.result) c.search-found.new.self)
    (subst (λ (w : Walking). stops_from w.judged c.self.inside.cursor ≡ ahead w.judged w.position) c.self.view_is c.self.invariant.2) c.search-found.ensures.searches)
    (λ j. record { judged = (c.self-2.view_is j).judged; position = c.position_behind-self-inside.ensures.position j; steps = (c.self-2.view_is j).steps })

pub returns-clause-goes : goal.returns-clause-goes
returns-clause-goes c = moved-on (λ w. Unit {0}) (λ w. tt) _ _ _ (returns-clause-steps c)
