use Rattle.std.proofs.Common.{◌≡◌, take}
use Rattle.cudf_better.specs.Working.Definitions.{with_clauses}
use Rattle.cudf_better.proofs.constraint.Definitions.put_all.Given as goal

abbrev pub invariant-loop-index : goal.invariant-loop-index
invariant-loop-index l = l.self ≡ with_clauses l.initial.self (take l.index l.cnf.clauses)
