use Rattle.std.proofs.Common.{◌≡◌, ℕ, List}
use Rattle.cudf_value.specs.Promises.Views.{list_view, vpkgs_view}
use Rattle.cudf_referee.specs.Working.Before.{kept_greatest, with_entries}
use Rattle.cudf_referee.proofs.referee.NumberedNames.add_entries.Given as goal

abbrev pub invariant-loop-entry : goal.invariant-loop-entry
invariant-loop-entry l = (f : List ℕ) → with_entries f (vpkgs_view l.entry-iterator) (kept_greatest f l.self) ≡ with_entries f (list_view l.entries) (kept_greatest f l.fn.self)
