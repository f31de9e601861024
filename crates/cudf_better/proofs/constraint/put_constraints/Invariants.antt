use Rattle.std.proofs.Common.{[], drop}
use Rattle.cudf_better.specs.Working.Constraints.{constraints_of}
use Rattle.cudf_better.specs.Working.Definitions.{with_constraints}
use Rattle.cudf_better.proofs.PutLemmas.{Remains}
use Rattle.cudf_better.proofs.constraint.put_constraints.Given as goal

abbrev pub invariant-loop-constraint : goal.invariant-loop-constraint
invariant-loop-constraint l =
    Remains (with_constraints l.initial.definitions [] (constraints_of l.fn.constraints)) l.definitions l.strict.items (constraints_of (drop l.constraint-index l.fn.constraints))
