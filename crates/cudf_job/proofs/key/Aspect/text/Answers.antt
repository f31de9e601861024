use Rattle.std.proofs.Common.{rules}
use Rattle.cudf_job.proofs.key.Aspect.text.Goals as goal

pub returns-in-Unsatisfied : goal.returns-in-Unsatisfied
returns-in-Unsatisfied c = search rules

pub returns-in-Many : goal.returns-in-Many
returns-in-Many c = search rules

pub returns-in-Lower : goal.returns-in-Lower
returns-in-Lower c = search rules
