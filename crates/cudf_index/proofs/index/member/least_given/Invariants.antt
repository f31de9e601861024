use Rattle.std.proofs.Common.{◌≡◌}
use Rattle.std.specs.List.{fold}
use Rattle.cudf_value.specs.Promises.Views.{list_view, vpkgs_view}
use Rattle.cudf_index.specs.Working.Members.{lesser_of}
use Rattle.cudf_index.proofs.index.member.least_given.Given as goal

abbrev pub invariant-loop-entry : goal.invariant-loop-entry
invariant-loop-entry l = fold (lesser_of l.name) l.least (vpkgs_view l.entry-iterator) ≡ fold (lesser_of l.name) l.fn.first (list_view l.entries)
