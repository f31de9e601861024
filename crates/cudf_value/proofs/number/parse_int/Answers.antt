use Rattle.std.proofs.Common.{◌∙◌}
use Rattle.cudf_value.proofs.NumberLemmas.{signed_read}
use Rattle.cudf_value.proofs.number.parse_int.Goals as goal

pub returns : goal.returns
returns c = c.ok.ensures.value ∙ signed_read c.args.text.now _ c.parse.ensures.value.0
