-- The provisions of a name in the order of their places, in halves (own).
use Rattle.std.specs.Prelude.{◌<◌, ◌≤◌, ◌+◌, List, ◌++◌, length}
use Rattle.cudf_index.specs.Working.Gathering.{Completes}
use Rattle.cudf_index.specs.declared.index.gathered_names.Entries.{Entries}
use Rattle.cudf_index.specs.declared.index.gathered_names.Provision.{Provision}
use Rattle.cudf_index.specs.declared.index.named_trees.Node.{Node}
use Rattle.cudf_index.specs.declared.index.named_trees.Node.TheVariants.{Few, Halves}

abbrev pub provisions : Node → List Provision
provisions (Few row) = row.items
provisions (Halves entries front back) = front.value ++ back.value

-- what is kept is that of the first half; the second one has as many provisions, or one more: so the tree is no deeper than
-- the binary digits of their number
pub record AreHalves (entries : Entries) (front back : List Provision) : Type 0 where
  pub first : Completes front entries
  pub front_some : 0 < length front
  pub even : length front ≤ length back
  pub within : length back ≤ length front + 1

abbrev pub Holds : Node → Type 0
Holds (Few row) = Unit
Holds (Halves entries front back) = AreHalves entries.value front.value back.value
