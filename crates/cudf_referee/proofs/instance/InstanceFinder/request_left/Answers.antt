use Rattle.std.proofs.Common.{◌≡◌, [], ◌∷◌, ap, sym, ◌∙◌, subst}
use Rattle.cudf_problem.specs.Universe.{PlainProblem, PlainRequest}
use Rattle.cudf_job.specs.KeyViews.{key_view}
use Rattle.cudf_referee.specs.Violations.{request_instances}
use Rattle.cudf_referee.specs.Working.RequestInstancesLeft.{request_left_view}
use Rattle.cudf_referee.proofs.AscentLemmas.{climbing_ascends, request_climbs}
use Rattle.cudf_referee.proofs.FinderLemmas.{kept-request}
use Rattle.cudf_referee.proofs.SoughtLemmas.{rest-all, rest-same, rest-climbing}
use Rattle.cudf_referee.proofs.instance.InstanceFinder.request_left.Goals as goal

pub returns-then-precedes : goal.returns-then-precedes
returns-then-precedes c =
    let r = c.args.self.now.request in
    rest-climbing (key_view c.in-Some.last) (key_view c.args.key) (sym c.precedes.ensures ∙ c.if-precedes.true) (2 ∷ []) (request_instances r) (3 ∷ []) (request_climbs r)
    (request_left_view r c.in-Some.left)
    (kept-request c.self.inside.problem.now c.args.self.now c.self.view_is c.self.inside.of_request c.in-Some.last c.in-Some.left c.self.invariant.1 c.in-Some.is)

pub returns : goal.returns
returns c =
    let r = c.args.self.now.request in
    let all = request_instances r in
    let same = c.request.ensures ∙ ap (λ (q : PlainProblem). q.request) c.self.view_is in
    rest-same (key_view c.args.key) all all (request_left_view r c.of.result) (subst (λ (q : PlainRequest). request_instances q ≡ request_left_view q c.of.result) same (sym c.of.ensures))
    (rest-all (key_view c.args.key) all (climbing_ascends (2 ∷ []) all (3 ∷ []) (request_climbs r)))
