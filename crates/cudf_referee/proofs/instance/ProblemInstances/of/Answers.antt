use Rattle.std.proofs.Common.{◌≡◌, subst}
use Rattle.cudf_problem.specs.Universe.{PlainRequest}
use Rattle.cudf_referee.specs.Promises.ProblemInstances.{instances_left}
use Rattle.cudf_referee.specs.Violations.{request_instances}
use Rattle.cudf_referee.specs.Working.RequestInstancesLeft.{request_left_view}
use Rattle.cudf_referee.proofs.ProblemLemmas.{from-start}
use Rattle.cudf_referee.proofs.instance.ProblemInstances.of.Goals as goal

pub returns : goal.returns
unfolding instances_left
returns c = from-start c.args.problem.now c.of.result (subst (λ (r : PlainRequest). request_left_view r c.of.result ≡ request_instances r) c.request.ensures c.of.ensures)
