use Rattle.cudf_cnf.proofs.OrderLemmas.{keys_never_descend}
use Rattle.cudf_cnf.proofs.laws.ordered.Goals as goal

pub returns : goal.returns
returns c = keys_never_descend
