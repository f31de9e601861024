use Rattle.std.proofs.Common.{◌≡◌, ◌++◌}
use Rattle.std.specs.List.{flat_map}
use Rattle.cudf_value.specs.Promises.Views.{clauses_view, formula_view}
use Rattle.cudf_better.specs.Working.Sources.{missed_by}
use Rattle.cudf_better.proofs.items.add_missed_of.Given as goal

abbrev pub invariant-loop-clause : goal.invariant-loop-clause
invariant-loop-clause l =
    l.items ++ flat_map (missed_by l.source.problem.now l.place) (clauses_view l.clause-iterator)
    ≡ l.initial.items ++ flat_map (missed_by l.source.problem.now l.place) (formula_view l.formula)
