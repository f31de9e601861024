use Rattle.std.proofs.Common.{arith}
use Rattle.std.proofs.lemmas.Map.Text.{text_keys}
use Rattle.cudf_referee.proofs.referee.NumberedNames.add.Goals as goal

pub returns : goal.returns
returns c = λ f. grind (arith, text_keys)
