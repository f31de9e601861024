use Rattle.cudf_device.proofs.PaperLemmas.{◌▸◌}
use Rattle.cudf_check.proofs.lines.instance.print_aspect.Goals as goal

pub returns-in-Unsatisfied : goal.returns-in-Unsatisfied
returns-in-Unsatisfied g c = rw c.in-Unsatisfied.is (c.text.ensures ▸ c.print_vpkg.ensures)

pub returns-in-Lower : goal.returns-in-Lower
returns-in-Lower g c = rw c.in-Lower.is (c.text-in-Lower.ensures ▸ c.text-in-Lower-2.ensures ▸ c.text-in-Lower-3.ensures)
