use Rattle.cudf_reasons.proofs.LawLemmas.{each_told_once}
use Rattle.cudf_reasons.proofs.laws.each_once.Goals as goal

pub returns : goal.returns
returns c = each_told_once
