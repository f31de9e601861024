use Rattle.std.proofs.Common.{◌≡◌, ◌∷◌, map, refl, ap, sym, ◌∙◌, subst}
use Rattle.std.specs.Iterator.{YieldsFirstBy}
use Rattle.cudf_problem.specs.Universe.{PlainRequest}
use Rattle.cudf_referee.specs.Promises.Stops.{stop_at}
use Rattle.cudf_referee.specs.Promises.Views.{instance_view}
use Rattle.cudf_referee.specs.Promises.Walks.{Walking}
use Rattle.cudf_referee.specs.Proposals.{Proposal}
use Rattle.cudf_referee.specs.Working.RequestInstancesLeft.{request_left_view}
use Rattle.cudf_referee.specs.Working.Located.{IsLocated, IsStopLocated}
use Rattle.cudf_referee.proofs.ComesLemmas.{tail-start, tail-on, tail-comes}
use Rattle.cudf_referee.proofs.SearchLemmas.{goes-start, instances-more, instances-found, instances-end, nothing-next, nothing-left}
use Rattle.cudf_referee.proofs.LocatedLemmas.{next-located}
use Rattle.cudf_referee.proofs.referee.instances.Instances.search_request.Goals as goal

pub loop-instance-init : goal.loop-instance-init
loop-instance-init c = (goes-start _ _, tail-start _)

pub judge-requires : goal.judge-requires
judge-requires c =
    let next = subst (λ (r : PlainRequest). request_left_view r c.loop-instance.left ≡ instance_view c.in-Some.instance ∷ request_left_view r c.next.new.self) (c.request-request.ensures ∙ ap (λ (w : Walking). w.judged.problem.request) c.self.view_is) c.in-Some.ensures in
    subst (λ (s : Proposal). IsLocated s (instance_view c.in-Some.instance)) (sym c.loop-instance.invariant.0.judged)
    (next-located (IsStopLocated c.args.self.now.judged) _ _ _ _ (ap (map stop_at) next) c.loop-instance.invariant.1 c.requires)

pub returns-then-judge-clause-comes : goal.returns-then-judge-clause-comes
returns-then-judge-clause-comes c =
    let next = subst (λ (r : PlainRequest). request_left_view r c.loop-instance.left ≡ instance_view c.in-Some.instance ∷ request_left_view r c.next.new.self) (c.request-request.ensures ∙ ap (λ (w : Walking). w.judged.problem.request) c.self.view_is) c.in-Some.ensures in
    tail-comes _ _ _ _ (ap (map stop_at) next) c.loop-instance.invariant.1

pub returns-then-judge-clause-searches : goal.returns-then-judge-clause-searches
returns-then-judge-clause-searches c =
    let next = subst (λ (r : PlainRequest). request_left_view r c.loop-instance.left ≡ instance_view c.in-Some.instance ∷ request_left_view r c.next.new.self) (c.request-request.ensures ∙ ap (λ (w : Walking). w.judged.problem.request) c.self.view_is) c.in-Some.ensures in
    instances-found _ _ _ _ (map stop_at) (λ y ys. refl) _ _ _ next _ c.if-judge.true c.judge.ensures c.loop-instance.invariant.0

pub loop-instance-preserved : goal.loop-instance-preserved
loop-instance-preserved c =
    let next = subst (λ (r : PlainRequest). request_left_view r c.loop-instance.left ≡ instance_view c.in-Some.instance ∷ request_left_view r c.next.new.self) (c.request-request.ensures ∙ ap (λ (w : Walking). w.judged.problem.request) c.self.view_is) c.in-Some.ensures in (
      instances-more _ _ _ _ (map stop_at) (λ y ys. refl) _ _ _ next _ c.if-judge.false c.judge.ensures c.loop-instance.invariant.0,
      tail-on _ _ _ _ (ap (map stop_at) next) c.loop-instance.invariant.1,
    )

pub returns-clause-comes : goal.returns-clause-comes
returns-clause-comes c =
    let r = c.args.self.now.judged.problem.request in
    let same = c.request-request.ensures ∙ ap (λ (w : Walking). w.judged.problem.request) c.self.view_is in
    ap (map stop_at) (nothing-left instance_view (request_left_view r) c.loop-instance.left c.next.new.self _ c.in_default.is (subst (λ (r : PlainRequest). YieldsFirstBy instance_view (request_left_view r) c.loop-instance.left c.next.result c.next.new.self) same c.next.ensures))

pub returns-clause-searches : goal.returns-clause-searches
returns-clause-searches c =
    let r = c.args.self.now.judged.problem.request in
    let same = c.request-request.ensures ∙ ap (λ (w : Walking). w.judged.problem.request) c.self.view_is in
    instances-end _ _ _ (map stop_at) _ (nothing-next instance_view (request_left_view r) c.loop-instance.left c.next.new.self _ c.in_default.is (subst (λ (r : PlainRequest). YieldsFirstBy instance_view (request_left_view r) c.loop-instance.left c.next.result c.next.new.self) same c.next.ensures)) c.loop-instance.invariant.0
