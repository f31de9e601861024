use Rattle.std.proofs.Common.{◌≡◌, Some, map, take}
use Rattle.cudf_text.specs.Promises.Views.{property_view}
use Rattle.cudf_document.specs.Working.PackageFields.{package_fields_of, package_fields_view}
use Rattle.cudf_problem.specs.declared.problem.Postmark.TheVariants.{Package}
use Rattle.cudf_document.proofs.PropertyLemmas.{IsJudgedTo}
use Rattle.cudf_document.proofs.package.read_properties.Given as goal

abbrev pub invariant-loop-property : goal.invariant-loop-property
invariant-loop-property l =
    IsJudgedTo l.declarations (Some Package) (map property_view (take l.property-index l.stanza.properties.items)) l.names l.first
    × (package_fields_view l.fields ≡ package_fields_of l.declarations (map property_view (take l.property-index l.stanza.properties.items)))
