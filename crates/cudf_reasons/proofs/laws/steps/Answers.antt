use Rattle.cudf_reasons.proofs.LawLemmas.{steps_are_enough}
use Rattle.cudf_reasons.proofs.laws.steps.Goals as goal

pub returns : goal.returns
returns c = steps_are_enough
