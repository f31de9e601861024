use Rattle.std.proofs.Common.{arith}
use Rattle.cudf_index.proofs.GiverLemmas.{counts_same, same_length}
use Rattle.cudf_index.proofs.PairLemmas.{pairs_moved}
use Rattle.cudf_index.proofs.index.counts.PackageNumbers.sorted.Goals as goal

pub invariant_of-result : goal.invariant_of-result
invariant_of-result c = record {
  fewer = omega (arith, c.requires, same_length c.args.self.least.items c.new.result c.new.ensures.counts, same_length c.args.self.only.items c.new-4.result c.new-4.ensures.counts);
}

pub returns : goal.returns
returns c = record {
  within = λ bound. counts_same bound c.args.self.least.items c.args.self.greatest.items c.args.self.each.items c.args.self.only.items c.new.result c.new-2.result c.new-3.result c.new-4.result
      c.new.ensures.counts c.new-2.ensures.counts c.new-3.ensures.counts c.new-4.ensures.counts;
  pairs = pairs_moved c.args.self.only.items c.new-4.result c.new-4.ensures.permutation c.new-4.ensures.counts;
}
