use Rattle.std.proofs.Common.{ap, length, sym, ◌∙◌}
use Rattle.cudf_lrat.specs.Lists.{lists_in}
use Rattle.cudf_better.proofs.ItemLemmas.{items_length}
use Rattle.cudf_better.proofs.items.Items.len.Goals as goal

pub returns : goal.returns
returns c = c.len.ensures ∙ sym (items_length (lists_in c.self.inside.some) (lists_in c.self.inside.none) c.self.invariant) ∙ ap length c.self.view_is
