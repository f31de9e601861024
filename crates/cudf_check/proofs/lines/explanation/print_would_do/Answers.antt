use Rattle.cudf_check.proofs.lines.explanation.print_would_do.Goals as goal

pub returns-in-None : goal.returns-in-None
returns-in-None g c = rw c.in-None.is c.text-in-None.ensures
