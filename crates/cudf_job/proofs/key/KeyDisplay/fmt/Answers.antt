use Rattle.std.proofs.Common.{arith}
use Rattle.std.proofs.lemmas.Grind.{common_steps}
use Rattle.cudf_job.proofs.KeyTextLemmas.{dotted}
use Rattle.cudf_job.proofs.key.KeyDisplay.fmt.Goals as goal

pub returns-in-None-clause-writes : goal.returns-in-None-clause-writes
returns-in-None-clause-writes g c = grind (arith, common_steps)

pub returns-in-None-clause-styled : goal.returns-in-None-clause-styled
returns-in-None-clause-styled g c = grind (arith, common_steps)

pub returns-in-Some-clause-writes : goal.returns-in-Some-clause-writes
returns-in-Some-clause-writes g c = grind (arith, common_steps, dotted c.in-Some.aspect)

pub returns-in-Some-clause-styled : goal.returns-in-Some-clause-styled
returns-in-Some-clause-styled g c = grind (arith, common_steps, dotted c.in-Some.aspect)
