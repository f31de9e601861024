use Rattle.std.proofs.Common.{◌≡◌, filter, subst, ◌+◌, length, ap, sym, ◌∙◌, arith}
use Rattle.std.specs.Prelude.{slice_get}
use Rattle.std.proofs.lemmas.List.{length-map}
use Rattle.std.proofs.lemmas.Option.{slice_get_within}
use Rattle.cudf_problem.specs.Promises.Views.{package_view}
use Rattle.cudf_index.specs.Satisfaction.{Placed}
use Rattle.cudf_job.specs.KeyViews.{key_view}
use Rattle.cudf_referee.specs.Promises.Stops.{precedes}
use Rattle.cudf_referee.specs.Violations.{package_instances}
use Rattle.cudf_referee.specs.Promises.Walks.{Walking}
use Rattle.cudf_referee.specs.Working.PackageInstancesLeft.{left_view}
use Rattle.cudf_referee.proofs.SearchLemmas.{item-some, item-none, seen-item, the-same}
use Rattle.cudf_referee.proofs.referee.instances.Instances.behind_key.Goals as goal

pub returns-in-Some : goal.returns-in-Some
returns-in-Some c = λ p is.
    let s = c.args.self.now.judged in
    let ys = c.packages.result.now in
    let same = c.packages.ensures.packages ∙ ap (λ (w : Walking). w.judged.problem.packages) c.self.view_is in
    let here = ap (λ ps. slice_get ps c.args.index) (sym same) ∙ seen-item package_view ys c.args.index c.in-Some.package.now (item-some ys c.args.index c.in-Some.package c.in-Some.ensures.lookup) in
    let place = c.candidate.ensures.placed ∙ ap (λ q. (c.args.index + 1, q)) (the-same _ _ (sym here ∙ is)) in
    subst (λ (q : Placed). filter (λ x. precedes (key_view c.args.key) x.key) (package_instances s q) ≡ left_view q c.behind.result) place (c.behind.ensures s c.candidate.ensures.fits)

pub returns-in-None : goal.returns-in-None
returns-in-None c = λ p is.
    let ys = c.packages.result.now in
    absurd (omega (
      arith,
      slice_get_within _ c.args.index p is,
      item-none ys c.args.index c.in-None.ensures.lookup,
      length-map ys package_view,
      ap length c.packages.ensures.packages,
      ap (λ (w : Walking). length w.judged.problem.packages) c.self.view_is,
    ))
