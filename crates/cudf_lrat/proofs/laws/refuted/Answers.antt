use Rattle.cudf_lrat.proofs.LawLemmas.{checked_sound}
use Rattle.cudf_lrat.proofs.laws.refuted.Goals as goal

pub returns : goal.returns
returns c = λ variables cnf text core is. checked_sound variables cnf text core is
