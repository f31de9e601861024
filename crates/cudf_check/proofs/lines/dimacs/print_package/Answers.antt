use Rattle.cudf_device.proofs.PaperLemmas.{◌▸◌}
use Rattle.cudf_check.proofs.lines.dimacs.print_package.Goals as goal

pub returns : goal.returns
returns g c = c.text.ensures ▸ c.number.ensures ▸ c.text-2.ensures ▸ c.text-3.ensures ▸ c.text-4.ensures ▸ c.number-2.ensures ▸ c.text-5.ensures
