use Rattle.cudf_device.proofs.PaperLemmas.{◌▸◌}
use Rattle.cudf_check.proofs.lines.instance.print_meeting.Goals as goal

pub returns-in-Some : goal.returns-in-Some
returns-in-Some g c = rw c.in-Some.is (c.text.ensures ▸ c.text-in-Some.ensures ▸ c.text-in-Some-2.ensures ▸ c.number.ensures)
