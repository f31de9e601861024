use Rattle.cudf_referee.proofs.RemedyLemmas.{nothing_does}
use Rattle.cudf_referee.proofs.laws.nothing.Goals as goal

pub returns : goal.returns
returns c = nothing_does
