use Rattle.std.proofs.Common.{[]}
use Rattle.cudf_better.specs.Cardinality.{sums}
use Rattle.cudf_better.specs.Working.Definitions.{Puts}
use Rattle.cudf_better.proofs.network.put_added.Given as goal

abbrev pub invariant-loop-total : goal.invariant-loop-total
invariant-loop-total l = Puts (sums l.initial.definitions.next l.fn.xs l.fn.ys l.total) l.initial.definitions [] l.definitions l.outputs.items
