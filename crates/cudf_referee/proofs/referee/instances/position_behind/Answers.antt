use Rattle.std.proofs.Common.{arith}
use Rattle.std.proofs.lemmas.Grind.{common_steps}
use Rattle.cudf_referee.proofs.referee.instances.position_behind.Goals as goal

pub returns-in-None-clause-position : goal.returns-in-None-clause-position
returns-in-None-clause-position c = grind (arith, common_steps)

pub returns-in-None-clause-fits : goal.returns-in-None-clause-fits
returns-in-None-clause-fits c = grind (arith, common_steps)

pub returns-in-Some-clause-position : goal.returns-in-Some-clause-position
returns-in-Some-clause-position c = grind (arith, common_steps)

pub returns-in-Some-clause-fits : goal.returns-in-Some-clause-fits
returns-in-Some-clause-fits c = grind (arith, common_steps)
