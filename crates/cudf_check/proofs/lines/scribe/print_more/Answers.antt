use Rattle.cudf_device.proofs.PaperLemmas.{◌▸◌}
use Rattle.cudf_check.proofs.lines.scribe.print_more.Goals as goal

pub returns : goal.returns
returns g c = c.text.ensures ▸ c.print_key.ensures ▸ c.text-2.ensures
