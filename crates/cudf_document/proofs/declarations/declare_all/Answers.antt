use Rattle.std.proofs.Common.{◌+◌, map, drop, ap, sym, ◌∙◌}
use Rattle.std.proofs.lemmas.List.{at_drop_more}
use Rattle.cudf_text.specs.Promises.Views.{property_view}
use Rattle.cudf_problem.specs.Preamble.{declared_after}
use Rattle.cudf_document.proofs.declarations.declare_all.Goals as goal

pub loop-property-preserved : goal.loop-property-preserved
loop-property-preserved c =
    let ps = c.args.properties.now in
    let i = c.loop-property.property-index in
    ap (λ ds. declared_after ds (map property_view (drop (i + 1) ps))) c.in_ok-declare.ensures
    ∙ sym (at_drop_more (λ qs. declared_after c.loop-property.declarations (map property_view qs)) ps i _ c.loop-property-test.true)
    ∙ c.loop-property.invariant
