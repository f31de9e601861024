use Rattle.std.proofs.Common.{◌∷◌, [], sym}
use Rattle.cudf_job.specs.KeyViews.{key_view}
use Rattle.cudf_referee.specs.Violations.{package_instances}
use Rattle.cudf_referee.specs.Working.PackageInstancesLeft.{placed_view}
use Rattle.cudf_referee.proofs.AscentLemmas.{climbing_ascends, instances_climb}
use Rattle.cudf_referee.proofs.SoughtLemmas.{rest-all, rest-same}
use Rattle.cudf_referee.proofs.left.Candidate.behind.Goals as goal

pub returns : goal.returns
returns c = λ s fits.
    let q = placed_view c.args.self in
    let all = package_instances s q in
    (c.seek-found.ensures all (rest-same (key_view c.args.key) all all _ (sym (c.all-left.ensures s fits))
    (rest-all (key_view c.args.key) all (climbing_ascends (1 ∷ q.0 ∷ []) all (1 ∷ q.0 ∷ 4 ∷ []) (instances_climb s q))))).after
