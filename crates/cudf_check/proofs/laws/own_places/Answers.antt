use Rattle.cudf_check.proofs.JudgingLemmas.{entrants_own}
use Rattle.cudf_check.proofs.laws.own_places.Goals as goal

pub returns : goal.returns
returns c = λ problem solutions. entrants_own problem 1 solutions
