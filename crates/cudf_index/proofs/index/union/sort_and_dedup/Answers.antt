use Rattle.std.proofs.Common.{rules}
use Rattle.cudf_index.proofs.PlaceLemmas.{unique_rises, unique_same}
use Rattle.cudf_index.proofs.index.union.sort_and_dedup.Goals as goal

pub returns-clause-rises : goal.returns-clause-rises
returns-clause-rises c = search (rules, unique_rises)

pub returns-clause-same : goal.returns-clause-same
returns-clause-same c = unique_same _ _ _ c.sort_unstable.ensures.permutation c.dedup.ensures.filtered
