use Rattle.std.proofs.Common.{◌≡◌, filter, ap, sym, ◌∙◌, subst}
use Rattle.cudf_problem.specs.Universe.{PlainRequest}
use Rattle.cudf_job.specs.KeyViews.{key_view}
use Rattle.cudf_referee.specs.Instances.{PlainInstance}
use Rattle.cudf_referee.specs.Promises.Stops.{precedes}
use Rattle.cudf_referee.specs.Violations.{request_instances}
use Rattle.cudf_referee.specs.Promises.Walks.{Walking}
use Rattle.cudf_referee.specs.Working.RequestInstancesLeft.{request_left_view}
use Rattle.cudf_referee.proofs.CursorLemmas.{count-same, behind-package, behind-request, behind-solution}
use Rattle.cudf_referee.proofs.referee.instances.Instances.cursor_behind.Goals as goal

pub returns-in-Package : goal.returns-in-Package
returns-in-Package c =
    let s = c.args.self.now.judged in
    let same = c.request-request.ensures ∙ ap (λ (w : Walking). w.judged.problem.request) c.self.view_is in
    behind-package s (key_view c.args.key) c.part.ensures.fits c.in-Package.place c.behind_key.result c.of.result c.args.unknown (sym c.part.ensures.value ∙ c.in-Package.is)
    (subst (λ (r : PlainRequest). request_left_view r c.of.result ≡ request_instances r) same c.of.ensures)
    c.requires c.behind_key.ensures

pub returns-in-Request : goal.returns-in-Request
returns-in-Request c =
    let s = c.args.self.now.judged in
    let later = λ (x : PlainInstance). precedes (key_view c.args.key) x.key in
    let same = c.request-request.ensures ∙ ap (λ (w : Walking). w.judged.problem.request) c.self.view_is in
    behind-request s (key_view c.args.key) c.part.ensures.fits _ c.behind.result c.args.unknown
    (count-same _ _ _ c.packages.ensures.packages c.self.view_is) (sym c.part.ensures.value ∙ c.in-Request.is)
    c.requires
    (subst (λ (r : PlainRequest). filter later (request_instances r) ≡ request_left_view r c.behind.result) same c.behind.ensures)

pub returns-in-Solution : goal.returns-in-Solution
returns-in-Solution c =
    let s = c.args.self.now.judged in
    behind-solution s (key_view c.args.key) c.part.ensures.fits _ c.none.result c.args.unknown
    (count-same _ _ _ c.packages-in-Solution.ensures.packages c.self.view_is)
    (c.none.ensures s.problem.request) (sym c.part.ensures.value ∙ c.in-Solution.is)
    c.requires
