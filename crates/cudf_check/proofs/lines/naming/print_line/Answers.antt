use Rattle.std.proofs.Common.{◌++◌, ap, codes, decimal}
use Rattle.cudf_device.proofs.PaperLemmas.{Says-as, ◌▸◌}
use Rattle.cudf_check.proofs.lines.naming.print_line.Goals as goal

pub returns-in-Some : goal.returns-in-Some
returns-in-Some g c = rw c.in-Some.is (Says-as _ _ _ _ _ (ap (λ n. codes ", not installed on line " ++ decimal n ++ codes " of the solution") c.line_in.ensures)
    (c.text.ensures ▸ c.number.ensures ▸ c.text-in-Some.ensures))
