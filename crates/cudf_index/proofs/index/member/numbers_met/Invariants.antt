use Rattle.std.proofs.Common.{◌≡◌, ◌+◌, ◌^◌, ◌≤◌, length}
use Rattle.std.specs.List.{count_by}
use Rattle.cudf_value.specs.Promises.Views.{vpkg_view, list_view, vpkgs_view}
use Rattle.cudf_index.specs.Working.Kept.{is_met_by_entry}
use Rattle.cudf_index.proofs.index.member.numbers_met.Given as goal

abbrev pub invariant-loop-entry : goal.invariant-loop-entry
invariant-loop-entry l =
    (l.met + count_by (is_met_by_entry (vpkg_view l.vpkg)) (vpkgs_view l.entry-iterator) ≡ count_by (is_met_by_entry (vpkg_view l.vpkg)) (list_view l.entries))
    × (l.met + length (vpkgs_view l.entry-iterator) ≤ 2 ^ 63)
