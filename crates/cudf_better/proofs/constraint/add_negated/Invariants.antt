use Rattle.std.proofs.Common.{◌≡◌, ◌++◌, map, take}
use Rattle.cudf_lrat.specs.Steps.{negated}
use Rattle.cudf_better.proofs.constraint.add_negated.Given as goal

abbrev pub invariant-loop-other : goal.invariant-loop-other
invariant-loop-other l = l.literals.items ≡ l.initial.literals.items ++ map negated (take l.other-index l.others)
