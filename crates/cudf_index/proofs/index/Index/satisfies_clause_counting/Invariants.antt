use Rattle.std.proofs.Common.{◌≡◌, ◌+◌, ◌≤◌}
use Rattle.cudf_value.specs.Promises.Views.{clause_view, atoms_view}
use Rattle.cudf_index.specs.Satisfaction.{satisfies_clause}
use Rattle.cudf_index.specs.Promises.Prices.{clause_cost, clause_lookups}
use Rattle.cudf_index.proofs.index.Index.satisfies_clause_counting.Given as goal

abbrev pub invariant-loop-atom : goal.invariant-loop-atom
invariant-loop-atom l =
    (satisfies_clause l.self (atoms_view l.atom-iterator) ≡ satisfies_clause l.self (clause_view l.clause))
    × (l.steps + clause_cost l.self (atoms_view l.atom-iterator) ≤ l.fn.steps + clause_cost l.self (clause_view l.clause))
    × (l.fn.steps + clause_lookups l.self (clause_view l.clause) ≤ l.steps + clause_lookups l.self (atoms_view l.atom-iterator))
