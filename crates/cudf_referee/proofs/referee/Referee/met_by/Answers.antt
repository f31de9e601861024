use Rattle.std.proofs.Common.{arith}
use Rattle.std.proofs.lemmas.Grind.{common_steps}
use Rattle.cudf_referee.proofs.referee.Referee.met_by.Goals as goal

pub returns-in-ConflictsWith : goal.returns-in-ConflictsWith
returns-in-ConflictsWith c = grind (arith, common_steps)

pub returns-in-Remove : goal.returns-in-Remove
returns-in-Remove c = grind (arith, common_steps)

pub returns-in_default : goal.returns-in_default
returns-in_default c = grind (arith, common_steps)
