use Rattle.cudf_check.proofs.StyleLemmas.{told_plainly}
use Rattle.cudf_check.proofs.laws.plain.Goals as goal

pub returns : goal.returns
returns c = told_plainly
