use Rattle.cudf_document.proofs.FaultlessLemmas.{faultless_is_sound}
use Rattle.cudf_document.proofs.laws.sound.Goals as goal

pub returns : goal.returns
returns c = faultless_is_sound
