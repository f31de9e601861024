use Rattle.cudf_reasons.proofs.PlaceLemmas.{sorted_once}
use Rattle.cudf_reasons.proofs.gathering.sort_places.Goals as goal

pub returns : goal.returns
returns c =
    sorted_once c.args.places.now.items c.sort_unstable.new.self.items c.dedup.new.self.items
    c.sort_unstable.ensures.permutation c.sort_unstable.ensures.sorted c.dedup.ensures.filtered
