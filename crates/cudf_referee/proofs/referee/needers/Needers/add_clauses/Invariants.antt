use Rattle.std.proofs.Common.{◌≡◌, ℕ}
use Rattle.cudf_value.specs.Promises.Views.{clauses_view, formula_view}
use Rattle.cudf_referee.specs.Working.Needers.{kept_needer, with_clauses, IsCovered}
use Rattle.cudf_referee.proofs.referee.needers.Needers.add_clauses.Given as goal

abbrev pub invariant-loop-clause : goal.invariant-loop-clause
invariant-loop-clause l =
    (place : ℕ) → IsCovered l.installed l.partners place
    → with_clauses l.installed l.needer place (clauses_view l.clause-iterator) (kept_needer place l.self) ≡ with_clauses l.installed l.needer place (formula_view l.depends) (kept_needer place l.fn.self)
