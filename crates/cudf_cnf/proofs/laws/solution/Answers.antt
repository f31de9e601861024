use Rattle.cudf_cnf.proofs.LawLemmas.{solution_satisfies}
use Rattle.cudf_cnf.proofs.laws.solution.Goals as goal

pub returns : goal.returns
returns c = solution_satisfies
