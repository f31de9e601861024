use Rattle.std.proofs.Common.{◌≡◌, ◌+◌, not}
use Rattle.std.specs.List.{count_by}
use Rattle.cudf_value.specs.Promises.Views.{formula_view, clauses_view}
use Rattle.cudf_index.specs.Satisfaction.{satisfies_clause}
use Rattle.cudf_referee.proofs.counting.unsatisfied_of.Given as goal

abbrev pub invariant-loop-clause : goal.invariant-loop-clause
invariant-loop-clause l =
    l.count + count_by (λ clause. not (satisfies_clause l.index clause)) (clauses_view l.clause-iterator)
    ≡ count_by (λ clause. not (satisfies_clause l.index clause)) (formula_view l.formula)
