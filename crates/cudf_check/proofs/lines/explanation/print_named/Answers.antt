use Rattle.cudf_device.proofs.PaperLemmas.{◌▸◌}
use Rattle.cudf_check.proofs.lines.explanation.print_named.Goals as goal

pub returns-in-Some : goal.returns-in-Some
returns-in-Some g c = rw c.in-Some.is (c.text.ensures ▸ c.print_stanza.ensures)

pub returns-in-None : goal.returns-in-None
returns-in-None g c = rw c.in-None.is (c.text-in-None.ensures ▸ c.text-in-None-2.ensures)
