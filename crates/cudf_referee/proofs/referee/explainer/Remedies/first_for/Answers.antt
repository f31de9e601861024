use Rattle.cudf_referee.specs.Working.Firsts.{searched}
use Rattle.cudf_referee.proofs.RemedyLemmas.{none_pass}
use Rattle.cudf_referee.proofs.referee.explainer.Remedies.first_for.Goals as goal

pub returns-in-No : goal.returns-in-No
returns-in-No c = rw c.in-No.is (none_pass (searched c.args.self.now c.args.among))
