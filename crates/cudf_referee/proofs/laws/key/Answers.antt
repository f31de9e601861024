use Rattle.cudf_referee.proofs.KeyTellLemmas.{texts_tell_keys}
use Rattle.cudf_referee.proofs.laws.key.Goals as goal

pub returns : goal.returns
returns c = texts_tell_keys
