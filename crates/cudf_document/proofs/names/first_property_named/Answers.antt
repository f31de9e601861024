use Rattle.std.proofs.Common.{option_map, find, bytes_eq, sym, ap, ◌∙◌}
use Rattle.cudf_text.specs.Promises.Views.{property_view}
use Rattle.cudf_problem.specs.Documents.{has_name}
use Rattle.cudf_problem.proofs.ListLemmas.{find-map, option_map-option_map}
use Rattle.cudf_document.proofs.names.first_property_named.Goals as goal

pub returns : goal.returns
returns c =
    sym (option_map-option_map property_view (λ p. p.now) c.find_property.result)
    ∙ ap (option_map property_view) (c.find_property.ensures ∙ ap (find (λ p. bytes_eq p.name.now c.args.name.now)) c.deref.ensures.value)
    ∙ find-map property_view (has_name c.args.name.now) c.args.stanza.now.properties.items
