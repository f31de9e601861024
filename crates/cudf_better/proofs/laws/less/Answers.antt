use Rattle.cudf_better.proofs.CardinalityLemmas.{less_satisfies}
use Rattle.cudf_better.proofs.laws.less.Goals as goal

pub returns : goal.returns
returns c = less_satisfies
