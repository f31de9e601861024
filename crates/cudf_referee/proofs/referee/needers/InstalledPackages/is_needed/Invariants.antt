-- The package isn't needed by the clauses so far.
use Rattle.std.proofs.Common.{◌≡◌}
use Rattle.std.specs.List.{list_any}
use Rattle.cudf_value.specs.Promises.Views.{clauses_view, formula_view}
use Rattle.cudf_referee.specs.Explanations.{is_only}
use Rattle.cudf_referee.proofs.referee.needers.InstalledPackages.is_needed.Given as goal

abbrev pub invariant-loop-clause : goal.invariant-loop-clause
invariant-loop-clause l = list_any (is_only l.self l.place) (clauses_view l.clause-iterator) ≡ list_any (is_only l.self l.place) (formula_view l.depends)
