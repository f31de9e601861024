use Rattle.std.proofs.Common.{length}
use Rattle.cudf_index.proofs.index.named_trees.ProvisionTree.+build.Given as goal

-- each half is shorter
abbrev pub decreases-build : goal.decreases-build
decreases-build l = length l.row.now
