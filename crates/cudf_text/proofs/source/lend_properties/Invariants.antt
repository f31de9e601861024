use Rattle.std.proofs.Common.{◌≡◌, map, take}
use Rattle.cudf_text.specs.Promises.Views.{own_property_view, property_view}
use Rattle.cudf_text.proofs.source.lend_properties.Given as goal

abbrev pub invariant-loop-property : goal.invariant-loop-property
invariant-loop-property l = map property_view l.lent.items ≡ map own_property_view (take l.property-index l.properties)
