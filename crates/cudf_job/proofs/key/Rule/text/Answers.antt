use Rattle.std.proofs.Common.{rules}
use Rattle.cudf_job.proofs.key.Rule.text.Goals as goal

pub returns-in-Depends : goal.returns-in-Depends
returns-in-Depends c = search rules

pub returns-in-Conflicts : goal.returns-in-Conflicts
returns-in-Conflicts c = search rules

pub returns-in-Keep : goal.returns-in-Keep
returns-in-Keep c = search rules

pub returns-in-Install : goal.returns-in-Install
returns-in-Install c = search rules

pub returns-in-Remove : goal.returns-in-Remove
returns-in-Remove c = search rules

pub returns-in-Upgrade : goal.returns-in-Upgrade
returns-in-Upgrade c = search rules

pub returns-in-Unknown : goal.returns-in-Unknown
returns-in-Unknown c = search rules
