-- Each half has fewer provisions than the whole.
use Rattle.std.specs.Prelude.{◌≤◌, max, length}
use Rattle.std.proofs.Common.{arith, length-append}
use Rattle.cudf_index.specs.declared.index.named_trees.Node.{Node}
use Rattle.cudf_index.specs.declared.index.named_trees.Node.TheVariants.{Few, Halves}
use Rattle.cudf_index.specs.declared.index.named_trees.ProvisionTree.TheDeep.{deep-Node}
use Rattle.cudf_index.specs.Working.Trees.{provisions, Holds}

pub depth_le-length : (n : Node) → Holds n → max (deep-Node n) 0 ≤ length (provisions n)
depth_le-length (Few row) h = omega arith
depth_le-length (Halves entries front back) h = omega (arith, length-append front.value back.value, h.front_some, h.even)
