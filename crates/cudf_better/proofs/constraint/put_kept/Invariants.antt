use Rattle.std.proofs.Common.{◌≡◌, ◌++◌, ◌∷◌, [], map, take}
use Rattle.cudf_cnf.specs.Cnf.{is_out}
use Rattle.cudf_better.specs.Working.Definitions.{with_clauses}
use Rattle.cudf_better.proofs.constraint.put_kept.Given as goal

abbrev pub invariant-loop-variable : goal.invariant-loop-variable
invariant-loop-variable l = l.definitions ≡ with_clauses l.initial.definitions (map (λ variable. l.fn.strict ++ is_out variable ∷ []) (take l.variable-index l.outputs))
