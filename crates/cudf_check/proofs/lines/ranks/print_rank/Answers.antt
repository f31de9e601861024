use Rattle.cudf_device.proofs.PaperLemmas.{◌▸◌}
use Rattle.cudf_check.proofs.lines.ranks.print_rank.Goals as goal

pub returns : goal.returns
returns g c = c.number.ensures ▸ c.text.ensures ▸ c.print_name.ensures ▸ c.text-2.ensures
