use Rattle.cudf_referee.specs.Proposals.{proposal}
use Rattle.cudf_referee.proofs.AscentLemmas.{listing_ascends}
use Rattle.cudf_referee.proofs.laws.ascending.Goals as goal

pub returns : goal.returns
returns c = λ problem was is unknown h. listing_ascends (proposal problem was is unknown) h
