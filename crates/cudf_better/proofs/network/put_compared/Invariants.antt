use Rattle.std.proofs.Common.{drop}
use Rattle.cudf_better.specs.Cardinality.{compared}
use Rattle.cudf_better.specs.Working.Definitions.{Rests}
use Rattle.cudf_better.proofs.network.put_compared.Given as goal

abbrev pub invariant-loop-i : goal.invariant-loop-i
invariant-loop-i l =
    Rests l.initial.definitions l.initial.outputs.items (compared l.initial.definitions.next l.fn.xs l.fn.ys) l.definitions l.outputs.items (compared l.definitions.next (drop l.i l.fn.xs) (drop l.i l.fn.ys))
