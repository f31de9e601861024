use Rattle.cudf_device.proofs.PaperLemmas.{Says-as, ◌▸◌}
use Rattle.cudf_check.proofs.lines.naming.print_fault.Goals as goal

pub returns : goal.returns
returns g c =
    c.print_numbered.ensures ▸ c.text.ensures ▸ Says-as _ _ _ _ _ c.text-2.ensures c.text-3.ensures ▸ c.print_added.ensures
