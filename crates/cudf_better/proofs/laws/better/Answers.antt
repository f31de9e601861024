use Rattle.cudf_better.proofs.LawLemmas.{better_satisfies, refuted_is_best}
use Rattle.cudf_better.proofs.laws.better.Goals as goal

pub returns-clause-satisfies : goal.returns-clause-satisfies
returns-clause-satisfies c = better_satisfies

pub returns-clause-best : goal.returns-clause-best
returns-clause-best c = refuted_is_best
