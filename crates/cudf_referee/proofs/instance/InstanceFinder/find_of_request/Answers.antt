use Rattle.std.proofs.Common.{sym, ap, ◌∙◌, subst}
use Rattle.cudf_problem.specs.Universe.{PlainProblem, PlainRequest}
use Rattle.cudf_job.specs.KeyViews.{key_view}
use Rattle.cudf_referee.specs.Violations.{request_instances}
use Rattle.cudf_referee.specs.Working.RequestInstancesLeft.{request_left_view}
use Rattle.cudf_referee.specs.Working.Sought.{IsRest}
use Rattle.cudf_referee.proofs.FoundLemmas.{of-request}
use Rattle.cudf_referee.proofs.instance.InstanceFinder.find_of_request.Goals as goal

pub returns-clause-found : goal.returns-clause-found
returns-clause-found c =
    let key = key_view c.args.key in
    let all = request_instances c.args.self.now.request in
    let same = sym (c.request.ensures ∙ ap (λ (q : PlainProblem). q.request) c.self.view_is) in
    (c.seek-found.ensures all (subst (λ (r : PlainRequest). IsRest key all (request_left_view r c.request_left-left.result)) same c.request_left-left.ensures)).one
    ∙ sym (of-request key c.args.self.now c.requires)
