use Rattle.std.proofs.Common.{not, arith}
use Rattle.std.proofs.lemmas.List.Sums.{count_by-le-length}
use Rattle.cudf_value.specs.Promises.Views.{formula_view}
use Rattle.cudf_index.specs.Satisfaction.{satisfies_clause}
use Rattle.cudf_referee.proofs.counting.unsatisfied_of.Goals as goal

pub overflow_add-count : goal.overflow_add-count
overflow_add-count c =
    omega (arith, c.loop-clause.invariant, count_by-le-length (λ clause. not (satisfies_clause c.args.index.now clause)) (formula_view c.args.formula), c.args.formula.few)
