use Rattle.cudf_cnf.proofs.LawLemmas.{refuted_are_violated, refuted_has_none}
use Rattle.cudf_cnf.proofs.laws.refuted.Goals as goal

pub returns-clause-violated : goal.returns-clause-violated
returns-clause-violated c = refuted_are_violated

pub returns-clause-none : goal.returns-clause-none
returns-clause-none c = refuted_has_none
