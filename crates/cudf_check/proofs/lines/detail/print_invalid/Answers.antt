use Rattle.cudf_device.proofs.PaperLemmas.{◌▸◌}
use Rattle.cudf_check.proofs.lines.detail.print_invalid.Goals as goal

pub returns : goal.returns
returns g c = c.print_numbered.ensures ▸ c.text.ensures ▸ c.print_byte.ensures
