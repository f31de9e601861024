use Rattle.cudf_index.specs.Promises.Members.{other_than}
use Rattle.cudf_referee.proofs.RemedyLemmas.{none_pass}
use Rattle.cudf_referee.proofs.referee.needers.InstalledPackages.satisfying_atom.Goals as goal

pub returns-in-No : goal.returns-in-No
returns-in-No c = rw c.in-No.is (none_pass (other_than c.args.except c.args.self.now))
