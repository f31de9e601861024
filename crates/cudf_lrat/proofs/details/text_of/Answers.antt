use Rattle.std.proofs.Common.{sym, ◌∙◌}
use Rattle.cudf_lrat.proofs.DetailLemmas.{binary-other, binary-text}
use Rattle.cudf_lrat.proofs.details.text_of.Goals as goal

pub returns-else-has_binary_byte : goal.returns-else-has_binary_byte
returns-else-has_binary_byte c = (sym (binary-text c.args.line.now c.in-Ok.ensures.cases.1) ∙ sym c.if-has_binary_byte.ensures, c.in-Ok.ensures.cases.0)

pub returns-in-Err : goal.returns-in-Err
returns-in-Err c = binary-other c.args.line.now c.in-Err.ensures.cases.0
