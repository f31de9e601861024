use Rattle.std.proofs.Common.{◌≡◌, ℕ, List, ◌++◌, length, false}
use Rattle.cudf_value.specs.Promises.Views.{list_view, vpkgs_view}
use Rattle.cudf_index.specs.Working.Gathering.{row_of, provisions_of, AreFilled}
use Rattle.cudf_index.proofs.index.gathered_names.GatheredNames.add_entries.Given as goal

abbrev pub invariant-loop-entry : goal.invariant-loop-entry
invariant-loop-entry l = (length l.self.rows.items ≡ length l.self.names.keys)
    × ((f : List ℕ) → row_of f l.self ++ provisions_of false f l.place (vpkgs_view l.entry-iterator) ≡ row_of f l.fn.self ++ provisions_of false f l.place (list_view l.entries))
    × (AreFilled l.fn.self → AreFilled l.self)
