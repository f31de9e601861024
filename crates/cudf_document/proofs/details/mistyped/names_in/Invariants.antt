use Rattle.std.proofs.Common.{map, take}
use Rattle.cudf_text.specs.Promises.Views.{property_view}
use Rattle.cudf_document.specs.Working.SeenNames.{AreNames}
use Rattle.cudf_document.proofs.details.mistyped.names_in.Given as goal

abbrev pub invariant-loop-property : goal.invariant-loop-property
invariant-loop-property l = AreNames l.names (map property_view (take l.property-index l.properties))
