use Rattle.std.proofs.Common.{◌≡◌, ◌++◌, ◌∷◌, [], map}
use Rattle.cudf_better.specs.Better.{changes, item}
use Rattle.cudf_better.proofs.PackageLemmas.{first}
use Rattle.cudf_better.proofs.items.add_touched.Given as goal

abbrev pub invariant-loop-index : goal.invariant-loop-index
invariant-loop-index l = l.items ≡ l.initial.items ++ map (λ p. item (changes p ∷ []) []) (first l.source.problem.now l.index)
