use Rattle.std.proofs.Common.{◌≡◌, length}
use Rattle.cudf_document.specs.Working.Details.{nothing_passed, found_in}
use Rattle.cudf_document.proofs.details.find_stanza.Given as goal

-- the stanza is found in what is left, after what was passed
abbrev pub invariant-stanzas : goal.invariant-stanzas
invariant-stanzas l = found_in l.passed l.line l.stanzas.stanzas ≡ found_in nothing_passed l.line l.fn.stanzas.stanzas

abbrev pub decreases-stanzas : goal.decreases-stanzas
decreases-stanzas l = length l.stanzas.stanzas
