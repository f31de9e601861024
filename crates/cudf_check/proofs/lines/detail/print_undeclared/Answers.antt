use Rattle.cudf_device.proofs.PaperLemmas.{◌▸◌}
use Rattle.cudf_check.proofs.lines.detail.print_undeclared.Goals as goal

pub returns : goal.returns
returns g c = c.print_texts.ensures ▸ c.print_missing_blank.ensures
