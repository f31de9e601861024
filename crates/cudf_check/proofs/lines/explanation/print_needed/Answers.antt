use Rattle.cudf_device.proofs.PaperLemmas.{◌▸◌}
use Rattle.cudf_check.proofs.lines.explanation.print_needed.Goals as goal

pub returns-in-Some : goal.returns-in-Some
returns-in-Some g c = rw c.in-Some.is (c.text.ensures ▸ c.number.ensures ▸ c.text-in-Some.ensures ▸ c.print_needer.ensures)
