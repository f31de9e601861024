use Rattle.std.proofs.Common.{◌≡◌, length}
use Rattle.cudf_document.specs.Working.Details.{pair_line}
use Rattle.cudf_document.proofs.details.invalid.find_package.Given as goal

-- it is found in what is left
abbrev pub invariant-stanzas : goal.invariant-stanzas
invariant-stanzas l = pair_line (l.name, l.version) l.line l.stanzas.stanzas ≡ pair_line (l.name, l.version) l.line l.fn.stanzas.stanzas

abbrev pub decreases-stanzas : goal.decreases-stanzas
decreases-stanzas l = length l.stanzas.stanzas
