use Rattle.cudf_cnf.proofs.LawLemmas.{falsified_is_violated}
use Rattle.cudf_cnf.proofs.laws.violated.Goals as goal

pub returns : goal.returns
returns c = falsified_is_violated
