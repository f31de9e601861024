use Rattle.std.proofs.Common.{arith}
use Rattle.std.proofs.lemmas.Grind.{common_steps}
use Rattle.cudf_referee.proofs.referee.needers.Needers.add.Goals as goal

pub returns : goal.returns
returns c = λ place. grind (arith, common_steps)
