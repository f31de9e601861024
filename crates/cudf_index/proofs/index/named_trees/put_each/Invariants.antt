use Rattle.std.proofs.Common.{◌≡◌, take}
use Rattle.cudf_index.specs.Working.ProvisionTest.{with_all}
use Rattle.cudf_index.proofs.index.named_trees.put_each.Given as goal

abbrev pub invariant-loop-provision : goal.invariant-loop-provision
invariant-loop-provision l = l.places.items ≡ with_all l.wanted l.fn.places.items (take l.provision-index l.row)
