use Rattle.std.proofs.Common.{refl}
use Rattle.cudf_job.proofs.key.Key.rule.Goals as goal

pub returns : goal.returns
returns c = refl
