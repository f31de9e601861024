use Rattle.std.proofs.Common.{refl}
use Rattle.cudf_job.proofs.key.Key.aspect.Goals as goal

pub returns : goal.returns
returns c = refl
