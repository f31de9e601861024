use Rattle.std.proofs.Common.{◌≡◌, ◌-◌}
use Rattle.std.specs.List.{flat_map, range_with_len}
use Rattle.cudf_better.specs.Cardinality.{at_least, both_of}
use Rattle.cudf_better.specs.Working.Definitions.{with_terms}
use Rattle.cudf_better.proofs.network.put_sum.Given as goal

abbrev pub invariant-loop-i : goal.invariant-loop-i
invariant-loop-i l = l.definitions ≡ with_terms l.initial.definitions (flat_map (λ k. both_of (at_least k l.fn.xs) (at_least (l.fn.total - k) l.fn.ys)) (range_with_len 0 l.i))
