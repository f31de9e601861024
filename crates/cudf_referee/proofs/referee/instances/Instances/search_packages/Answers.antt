use Rattle.std.proofs.Common.{◌≡◌, length, [], ◌∷◌, ◌++◌, map, option_map, ◌+◌, refl, ap, sym, ◌∙◌, subst, arith}
use Rattle.std.proofs.lemmas.List.{length-map}
use Rattle.cudf_problem.specs.Promises.Views.{package_view}
use Rattle.cudf_index.specs.Satisfaction.{Placed}
use Rattle.cudf_referee.specs.Promises.Stops.{stop_at, package_end}
use Rattle.cudf_referee.specs.Promises.Views.{instance_view}
use Rattle.cudf_referee.specs.Promises.Walks.{Walking}
use Rattle.cudf_referee.specs.Proposals.{Proposal}
use Rattle.cudf_referee.specs.Working.Searches.{package_rest}
use Rattle.cudf_referee.specs.Working.PackageInstancesLeft.{placed_view, left_in, left_view}
use Rattle.std.specs.Prelude.{All}
use Rattle.std.proofs.lemmas.List.Elements.{All-same}
use Rattle.cudf_referee.specs.Working.Located.{IsStopLocated}
use Rattle.cudf_referee.proofs.LocatedLemmas.{all-left, tail-located}
use Rattle.cudf_referee.proofs.ComesLemmas.{tail-start, tail-past, packages-comes, packages-none}
use Rattle.cudf_referee.proofs.SearchLemmas.{goes-start, goes-found, searches-at, package-here, packages-next, packages-on, packages-end}
use Rattle.cudf_referee.proofs.referee.instances.Instances.search_packages.Goals as goal

pub loop-index-init : goal.loop-index-init
loop-index-init c = (goes-start _ _, tail-start _, refl)

pub candidate-candidate-requires : goal.candidate-candidate-requires
candidate-candidate-requires c =
    package-here c.args.self.now.judged c.loop-index.self.judged c.packages-packages.result.now c.loop-index.index c.index-packages-index.result
    (c.packages-packages.ensures.packages ∙ ap (λ (w : Walking). w.judged.problem.packages) c.self.view_is) c.loop-index.invariant.0.judged c.loop-index-test.true c.index-packages-index.is

pub search_package-requires : goal.search_package-requires
search_package-requires c =
    let s = c.args.self.now.judged in
    let first =
    package-here s s c.packages-packages.result.now c.loop-index.index c.index-packages-index.result
    (c.packages-packages.ensures.packages ∙ ap (λ (w : Walking). w.judged.problem.packages) c.self.view_is) refl c.loop-index-test.true c.index-packages-index.is in
    let q : Placed = (c.loop-index.index + 1, package_view c.index-packages-index.result) in
    All-same (IsStopLocated c.loop-index.self.judged) _ _
    (ap (λ l. map stop_at l ++ package_end c.candidate-candidate.result.place ∷ []) (c.left-left.ensures c.loop-index.self.judged c.candidate-candidate.ensures.fits) ∙ ap (package_rest c.loop-index.self.judged c.loop-index.begun) c.candidate-candidate.ensures.placed)
    (subst (λ (t : Proposal). All (IsStopLocated t) (package_rest t c.loop-index.begun q)) (sym c.loop-index.invariant.0.judged)
    (all-left (IsStopLocated s) (package_rest s c.loop-index.begun q) _
    (subst (All (IsStopLocated s)) (packages-next s c.loop-index.begun c.loop-index.index _ first) (tail-located (IsStopLocated s) _ _ c.loop-index.invariant.1 c.requires))))

pub returns-in-Some-clause-searches : goal.returns-in-Some-clause-searches
returns-in-Some-clause-searches c =
    let here =
    package-here c.args.self.now.judged c.loop-index.self.judged c.packages-packages.result.now c.loop-index.index c.index-packages-index.result
    (c.packages-packages.ensures.packages ∙ ap (λ (w : Walking). w.judged.problem.packages) c.self.view_is) c.loop-index.invariant.0.judged c.loop-index-test.true c.index-packages-index.is in
    goes-found (packages-on _ _ _ _ c.loop-index.begun c.loop-index.index _ _ here c.loop-index.invariant.0
    (searches-at _ _ _ _ _ _ (ap (λ l. map stop_at l ++ package_end c.candidate-candidate.result.place ∷ []) (c.left-left.ensures c.loop-index.self.judged c.candidate-candidate.ensures.fits) ∙ ap (package_rest c.loop-index.self.judged c.loop-index.begun) c.candidate-candidate.ensures.placed) (ap (option_map instance_view) c.in-Some.is) c.search_package.ensures.searches))

pub returns-in-Some-clause-comes : goal.returns-in-Some-clause-comes
returns-in-Some-clause-comes c =
    let here =
    package-here c.args.self.now.judged c.args.self.now.judged c.packages-packages.result.now c.loop-index.index c.index-packages-index.result
    (c.packages-packages.ensures.packages ∙ ap (λ (w : Walking). w.judged.problem.packages) c.self.view_is) refl c.loop-index-test.true c.index-packages-index.is in
    let q = placed_view c.candidate-candidate.result in
    packages-comes c.args.self.now.judged _ c.loop-index.begun c.loop-index.index _ q c.left-left.result c.search_package.new.left _ here c.candidate-candidate.ensures.placed
    (subst (λ (s : Proposal). left_view q c.left-left.result ≡ left_in s c.loop-index.begun q) c.loop-index.invariant.0.judged (c.left-left.ensures c.loop-index.self.judged c.candidate-candidate.ensures.fits))
    c.loop-index.invariant.1 c.in-Some.ensures.comes

pub loop-index-preserved : goal.loop-index-preserved
loop-index-preserved c =
    let here =
    package-here c.args.self.now.judged c.loop-index.self.judged c.packages-packages.result.now c.loop-index.index c.index-packages-index.result
    (c.packages-packages.ensures.packages ∙ ap (λ (w : Walking). w.judged.problem.packages) c.self.view_is) c.loop-index.invariant.0.judged c.loop-index-test.true c.index-packages-index.is in
    let first =
    package-here c.args.self.now.judged c.args.self.now.judged c.packages-packages.result.now c.loop-index.index c.index-packages-index.result
    (c.packages-packages.ensures.packages ∙ ap (λ (w : Walking). w.judged.problem.packages) c.self.view_is) refl c.loop-index-test.true c.index-packages-index.is in (
      packages-on _ _ _ _ c.loop-index.begun c.loop-index.index _ _ here c.loop-index.invariant.0
          (searches-at _ _ _ _ _ _ (ap (λ l. map stop_at l ++ package_end c.candidate-candidate.result.place ∷ []) (c.left-left.ensures c.loop-index.self.judged c.candidate-candidate.ensures.fits) ∙ ap (package_rest c.loop-index.self.judged c.loop-index.begun) c.candidate-candidate.ensures.placed) (ap (option_map instance_view) c.in_default.is) c.search_package.ensures.searches),
      tail-past _ _ _ _ (packages-next c.args.self.now.judged c.loop-index.begun c.loop-index.index _ first) c.loop-index.invariant.1,
      c.loop-index.invariant.2,
    )

pub returns-clause-searches : goal.returns-clause-searches
returns-clause-searches c =
    packages-end _ _ _ c.loop-index.begun c.loop-index.index
    (omega (arith, c.loop-index-test.false, length-map c.packages-packages.result.now package_view, ap length c.packages-packages.ensures.packages, ap (λ (w : Walking). length w.judged.problem.packages) c.self.view_is))
    c.loop-index.invariant.0

pub returns-clause-comes : goal.returns-clause-comes
returns-clause-comes c = packages-none c.args.self.now.judged c.packages-packages.result.now (c.packages-packages.ensures.packages ∙ ap (λ (w : Walking). w.judged.problem.packages) c.self.view_is)
