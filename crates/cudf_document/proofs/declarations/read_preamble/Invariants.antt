use Rattle.std.proofs.Common.{map, take}
use Rattle.cudf_text.specs.Promises.Views.{property_view}
use Rattle.cudf_document.proofs.PreambleLemmas.{IsDeclaredTo}
use Rattle.cudf_document.proofs.declarations.read_preamble.Given as goal

abbrev pub invariant-loop-property : goal.invariant-loop-property
invariant-loop-property l = IsDeclaredTo (map property_view (take l.property-index l.stanza.properties.items)) l.names l.first l.declarations
