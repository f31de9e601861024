use Rattle.std.proofs.Common.{refl}
use Rattle.cudf_job.proofs.criteria.Criteria.paranoid.Goals as goal

pub returns : goal.returns
returns c = refl
