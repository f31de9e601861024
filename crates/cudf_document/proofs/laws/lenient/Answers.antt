use Rattle.cudf_document.proofs.ModeLemmas.{strict_adds_some_kinds}
use Rattle.cudf_document.proofs.laws.lenient.Goals as goal

pub returns : goal.returns
returns c = strict_adds_some_kinds
