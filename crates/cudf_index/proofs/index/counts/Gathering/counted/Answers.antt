use Rattle.std.proofs.Common.{refl}
use Rattle.cudf_index.proofs.AddedLemmas.{counted_all}
use Rattle.cudf_index.proofs.index.counts.Gathering.counted.Goals as goal

pub returns : goal.returns
returns c = λ done gathered. counted_all done c.args.self _ c.sorted-numbers.ensures c.sorted.ensures refl c.differing-differing.ensures gathered
