use Rattle.std.proofs.Common.{◌++◌, ap, codes, decimal}
use Rattle.cudf_device.proofs.PaperLemmas.{Says-as, ◌▸◌}
use Rattle.cudf_check.proofs.lines.reasons.print_clause_count.Goals as goal

pub returns : goal.returns
returns g c = Says-as _ _ _ _ _ (ap (λ n. codes "the CNF has " ++ decimal n ++ codes " clauses") c.from.ensures) (c.text.ensures ▸ c.number.ensures ▸ c.text-2.ensures)
