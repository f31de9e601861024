use Rattle.std.proofs.Common.{refl}
use Rattle.cudf_referee.specs.Proposals.{everything}
use Rattle.cudf_referee.proofs.ProblemLemmas.{placed-at}
use Rattle.cudf_referee.proofs.SearchLemmas.{package-here}
use Rattle.cudf_referee.proofs.left.candidate_at.candidate_at.Goals as goal

pub returns-then-index-packages : goal.returns-then-index-packages
returns-then-index-packages c =
    let s = everything c.args.problem.now in
    placed-at c.args.problem.now c.args.index _
    (package-here s s c.packages-packages.result.now c.args.index c.index-packages-index.result c.packages-packages.ensures.packages refl c.if-index-packages.true c.index-packages-index.is) refl refl
