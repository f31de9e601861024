use Rattle.std.proofs.Common.{arith}
use Rattle.std.proofs.lemmas.Grind.{common_steps}
use Rattle.cudf_job.proofs.key.Aspect.parse.Goals as goal

pub returns-in-unsatisfied-clause-printed : goal.returns-in-unsatisfied-clause-printed
returns-in-unsatisfied-clause-printed c = grind (arith, common_steps)

pub returns-in-unsatisfied-clause-exact : goal.returns-in-unsatisfied-clause-exact
returns-in-unsatisfied-clause-exact c = grind (arith, common_steps)

pub returns-in-many-clause-printed : goal.returns-in-many-clause-printed
returns-in-many-clause-printed c = grind (arith, common_steps)

pub returns-in-many-clause-exact : goal.returns-in-many-clause-exact
returns-in-many-clause-exact c = grind (arith, common_steps)

pub returns-in-lower-clause-printed : goal.returns-in-lower-clause-printed
returns-in-lower-clause-printed c = grind (arith, common_steps)

pub returns-in-lower-clause-exact : goal.returns-in-lower-clause-exact
returns-in-lower-clause-exact c = grind (arith, common_steps)

pub returns-in_default-clause-printed : goal.returns-in_default-clause-printed
returns-in_default-clause-printed c = grind (arith, common_steps)

pub returns-in_default-clause-exact : goal.returns-in_default-clause-exact
returns-in_default-clause-exact c = grind (arith, common_steps)
