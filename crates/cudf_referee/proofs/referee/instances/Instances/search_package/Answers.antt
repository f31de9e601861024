use Rattle.std.proofs.Common.{List, [], ◌∷◌, ◌++◌, map, refl, ap, sym, subst}
use Rattle.cudf_referee.specs.Proposals.{Proposal}
use Rattle.cudf_referee.specs.Instances.{PlainInstance}
use Rattle.cudf_referee.specs.Promises.Stops.{stop_at, package_end}
use Rattle.cudf_referee.specs.Promises.Views.{instance_view}
use Rattle.cudf_referee.specs.Working.PackageInstancesLeft.{placed_view, left_view}
use Rattle.cudf_referee.specs.Working.Located.{IsLocated, IsStopLocated}
use Rattle.cudf_referee.proofs.ComesLemmas.{tail-start, tail-on, tail-comes}
use Rattle.cudf_referee.proofs.SearchLemmas.{goes-start, part-last, instances-more, instances-found, instances-end, nothing-next}
use Rattle.cudf_referee.proofs.LocatedLemmas.{next-located}
use Rattle.cudf_referee.proofs.referee.instances.Instances.search_package.Goals as goal

pub loop-instance-init : goal.loop-instance-init
loop-instance-init c = (goes-start _ _, tail-start _)

pub judge-requires : goal.judge-requires
judge-requires c =
    let p = placed_view c.args.candidate in
    subst (λ (s : Proposal). IsLocated s (instance_view c.in-Some.instance)) (sym c.loop-instance.invariant.0.judged)
    (next-located (IsStopLocated c.args.self.now.judged) _ _ _ _ (ap (λ (l : List PlainInstance). map stop_at l ++ package_end p.0 ∷ []) c.in-Some.ensures) c.loop-instance.invariant.1 c.requires)

pub returns-then-judge-clause-searches : goal.returns-then-judge-clause-searches
returns-then-judge-clause-searches c =
    let p = placed_view c.args.candidate in
    instances-found _ _ _ _ (λ (l : List PlainInstance). map stop_at l ++ package_end p.0 ∷ []) (λ y ys. refl) _ _ _ c.in-Some.ensures _ c.if-judge.true c.judge.ensures c.loop-instance.invariant.0

pub returns-then-judge-clause-comes : goal.returns-then-judge-clause-comes
returns-then-judge-clause-comes c =
    let p = placed_view c.args.candidate in
    tail-comes _ _ _ _ (ap (λ (l : List PlainInstance). map stop_at l ++ package_end p.0 ∷ []) c.in-Some.ensures) c.loop-instance.invariant.1

pub loop-instance-preserved : goal.loop-instance-preserved
loop-instance-preserved c =
    let p = placed_view c.args.candidate in (
      instances-more _ _ _ _ (λ (l : List PlainInstance). map stop_at l ++ package_end p.0 ∷ []) (λ y ys. refl) _ _ _ c.in-Some.ensures _ c.if-judge.false c.judge.ensures c.loop-instance.invariant.0,
      tail-on _ _ _ _ (ap (λ (l : List PlainInstance). map stop_at l ++ package_end p.0 ∷ []) c.in-Some.ensures) c.loop-instance.invariant.1,
    )

pub returns-clause-searches : goal.returns-clause-searches
returns-clause-searches c =
    let p = placed_view c.args.candidate in
    part-last _ _ _ _ (λ s. package_end p.0 ∷ []) _ (instances-end _ _ _ (λ (l : List PlainInstance). map stop_at l ++ package_end p.0 ∷ []) _
    (nothing-next instance_view (left_view p) c.loop-instance.left c.next.new.left _ c.in_default.is c.next.ensures) c.loop-instance.invariant.0) (c.pass_end.ensures p.0)
