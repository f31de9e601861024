use Rattle.std.proofs.Common.{refl}
use Rattle.cudf_job.proofs.key.Key.place.Goals as goal

pub returns-clause-value : goal.returns-clause-value
returns-clause-value c = refl
