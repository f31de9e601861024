use Rattle.cudf_document.proofs.problem.first_fault.Goals as goal

pub returns : goal.returns
returns c = c.in_ok-walk.ensures.first_is
