use Rattle.std.proofs.Common.{ap, length, sym, ◌∙◌}
use Rattle.cudf_better.proofs.ItemLemmas.{formulas_length}
use Rattle.cudf_better.proofs.constraint.Formulas.len.Goals as goal

pub returns : goal.returns
returns c = c.len.ensures ∙ sym (formulas_length c.self.inside.is_true c.self.inside.items) ∙ ap length c.self.view_is
