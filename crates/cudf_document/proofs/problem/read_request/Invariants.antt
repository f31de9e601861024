use Rattle.std.proofs.Common.{◌≡◌, [], Some, map, take}
use Rattle.cudf_text.specs.Promises.Views.{property_view}
use Rattle.cudf_document.specs.Working.RequestFields.{request_fields_view, request_fields_of}
use Rattle.cudf_problem.specs.declared.problem.Postmark.TheVariants.{Request}
use Rattle.cudf_document.proofs.PropertyLemmas.{IsJudgedTo}
use Rattle.cudf_document.proofs.problem.read_request.Given as goal

abbrev pub invariant-loop-property : goal.invariant-loop-property
invariant-loop-property l =
    IsJudgedTo [] (Some Request) (map property_view (take l.property-index l.stanza.properties.items)) l.names l.first
    × (request_fields_view l.fields ≡ request_fields_of (map property_view (take l.property-index l.stanza.properties.items)))
