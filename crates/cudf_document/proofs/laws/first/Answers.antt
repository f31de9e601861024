use Rattle.cudf_document.proofs.LawLemmas.{least_first}
use Rattle.cudf_document.proofs.laws.first.Goals as goal

pub returns : goal.returns
returns c = least_first
