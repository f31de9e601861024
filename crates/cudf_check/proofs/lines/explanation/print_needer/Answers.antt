use Rattle.cudf_check.proofs.lines.explanation.print_needer.Goals as goal

pub returns-in-None : goal.returns-in-None
returns-in-None g c = rw c.in-None.is c.text.ensures
