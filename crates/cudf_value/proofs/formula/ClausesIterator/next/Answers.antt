use Rattle.std.proofs.Common.{option_copied, rules}
use Rattle.std.specs.Str.{byte}
use Rattle.cudf_value.specs.Formulas.{clause}
use Rattle.cudf_value.specs.Working.Rests.{parts_after}
use Rattle.cudf_value.proofs.LeftLemmas.{first_sound, before_alone}
use Rattle.cudf_value.proofs.formula.ClausesIterator.next.Goals as goal

pub invariant_of-result : goal.invariant_of-result
invariant_of-result c = record {
  sound = first_sound clause c.cut.result.0.now (parts_after (byte ",") (option_copied c.cut.result.1)) (search rules);
  alone = rw c.cut.ensures.first (before_alone (byte ",") c.in_ok-text.text.now);
}
