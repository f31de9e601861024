use Rattle.std.proofs.Common.{◌∙◌}
use Rattle.cudf_value.proofs.NumberLemmas.{natural_read}
use Rattle.cudf_value.proofs.number.parse_nat.Goals as goal

pub returns : goal.returns
returns c = c.ok.ensures.value ∙ natural_read c.args.text.now _ c.parse.ensures.value.0
