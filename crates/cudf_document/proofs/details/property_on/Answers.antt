use Rattle.std.proofs.Common.{◌==◌, option_map, find, sym, ap, ◌∙◌}
use Rattle.cudf_text.specs.Promises.Views.{property_view}
use Rattle.cudf_problem.proofs.ListLemmas.{find-map, option_map-option_map}
use Rattle.cudf_document.proofs.details.property_on.Goals as goal

pub returns : goal.returns
returns c =
    sym (option_map-option_map property_view (λ p. p.now) c.find_line.result)
    ∙ ap (option_map property_view) (c.find_line.ensures ∙ ap (find (λ p. p.line == c.args.line)) c.deref.ensures.value)
    ∙ find-map property_view (λ p. p.line == c.args.line) c.args.stanza.now.properties.items
