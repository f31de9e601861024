use Rattle.std.proofs.Common.{◌∷◌, [], sym}
use Rattle.cudf_problem.specs.Promises.Views.{request_view}
use Rattle.cudf_job.specs.KeyViews.{key_view}
use Rattle.cudf_referee.specs.Violations.{request_instances}
use Rattle.cudf_referee.proofs.AscentLemmas.{climbing_ascends, request_climbs}
use Rattle.cudf_referee.proofs.SoughtLemmas.{rest-all, rest-same}
use Rattle.cudf_referee.proofs.left.RequestInstancesLeft.behind.Goals as goal

pub returns : goal.returns
returns c =
    let r = request_view c.args.request.now in
    let all = request_instances r in
    (c.seek-found.ensures all (rest-same (key_view c.args.key) all all _ (sym c.of-left.ensures)
    (rest-all (key_view c.args.key) all (climbing_ascends (2 ∷ []) all (3 ∷ []) (request_climbs r))))).after
