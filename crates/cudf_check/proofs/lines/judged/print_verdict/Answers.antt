use Rattle.cudf_check.proofs.lines.judged.print_verdict.Goals as goal

pub returns-then-is_solution-clause-text : goal.returns-then-is_solution-clause-text
returns-then-is_solution-clause-text g c = rw c.if-is_solution.true c.text.ensures
