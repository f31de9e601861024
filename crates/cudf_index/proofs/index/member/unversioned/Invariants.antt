use Rattle.std.proofs.Common.{◌≡◌, ◌+◌, ◌^◌, ◌≤◌, length}
use Rattle.std.specs.List.{count_by}
use Rattle.cudf_value.specs.Promises.Views.{list_view, vpkgs_view}
use Rattle.cudf_index.specs.Working.Kept.{gives_all_of}
use Rattle.cudf_index.proofs.index.member.unversioned.Given as goal

abbrev pub invariant-loop-entry : goal.invariant-loop-entry
invariant-loop-entry l = (l.count + count_by (gives_all_of l.name) (vpkgs_view l.entry-iterator) ≡ count_by (gives_all_of l.name) (list_view l.entries))
    × (l.count + length (vpkgs_view l.entry-iterator) ≤ 2 ^ 63)
