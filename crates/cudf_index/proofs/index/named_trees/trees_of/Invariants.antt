use Rattle.std.proofs.Common.{◌≡◌, Some}
use Rattle.std.specs.Prelude.{All, slice_get}
use Rattle.cudf_index.proofs.index.named_trees.trees_of.Given as goal

abbrev pub invariant-loop-number : goal.invariant-loop-number
invariant-loop-number l = All (λ t. Some t.tree ≡ slice_get l.rows t.number) l.trees.items
