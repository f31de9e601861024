use Rattle.std.proofs.Common.{◌≡◌, ◌++◌}
use Rattle.std.specs.List.{flat_map}
use Rattle.cudf_better.specs.Better.{missed_items}
use Rattle.cudf_better.proofs.PackageLemmas.{first}
use Rattle.cudf_better.proofs.items.add_recommended.Given as goal

abbrev pub invariant-loop-index : goal.invariant-loop-index
invariant-loop-index l = l.items ≡ l.initial.items ++ flat_map (missed_items l.source.problem.now) (first l.source.problem.now l.index)
