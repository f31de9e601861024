use Rattle.cudf_referee.proofs.SolutionLemmas.{solution_is_empty}
use Rattle.cudf_referee.proofs.laws.empty.Goals as goal

pub returns : goal.returns
returns c = solution_is_empty
