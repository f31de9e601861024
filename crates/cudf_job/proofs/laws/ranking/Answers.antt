use Rattle.cudf_job.proofs.RankingLemmas.{ranking_permutes, ranking_ascends, ranking_alone}
use Rattle.cudf_job.proofs.laws.ranking.Goals as goal

pub returns-clause-permutes : goal.returns-clause-permutes
returns-clause-permutes c = ranking_permutes

pub returns-clause-ascends : goal.returns-clause-ascends
returns-clause-ascends c = ranking_ascends

pub returns-clause-alone : goal.returns-clause-alone
returns-clause-alone c = ranking_alone
