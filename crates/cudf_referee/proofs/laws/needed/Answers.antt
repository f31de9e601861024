use Rattle.cudf_referee.proofs.MissedLemmas.{needed_is_missed}
use Rattle.cudf_referee.proofs.laws.needed.Goals as goal

pub returns : goal.returns
returns c = needed_is_missed
