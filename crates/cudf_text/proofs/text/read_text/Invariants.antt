use Rattle.std.proofs.Common.{length}
use Rattle.cudf_text.specs.Working.Left.{text_left, IsCounted}
use Rattle.cudf_text.proofs.TrackedLemmas.{IsHeld}
use Rattle.cudf_text.proofs.text.read_text.Given as goal

abbrev pub invariant-stanzas : goal.invariant-stanzas
invariant-stanzas l = record {
  held : IsHeld l.source l.stanzas.items (text_left l.place);
  counted : IsCounted l.place;
}

abbrev pub decreases-stanzas : goal.decreases-stanzas
decreases-stanzas l = length (text_left l.place).stanzas
