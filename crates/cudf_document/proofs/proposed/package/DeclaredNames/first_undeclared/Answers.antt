use Rattle.std.proofs.Common.{not, map, take, get_or, sym, ap, ◌∙◌}
use Rattle.std.specs.List.{flat_map}
use Rattle.cudf_text.specs.declared.fault.Kind.TheVariants.{E8}
use Rattle.cudf_text.specs.Stanzas.{PlainProperty}
use Rattle.cudf_text.specs.Promises.Views.{property_view}
use Rattle.cudf_document.specs.Faults.{least, fault_if}
use Rattle.cudf_document.specs.Working.DeclaredNames.{is_extra}
use Rattle.cudf_problem.proofs.ListLemmas.{map_next-copied}
use Rattle.cudf_document.proofs.FaultLemmas.{faults-push}
use Rattle.cudf_document.proofs.proposed.package.DeclaredNames.first_undeclared.Goals as goal

pub loop-property-preserved : goal.loop-property-preserved
loop-property-preserved c =
    let items = c.args.stanza.now.properties.items in
    let i = c.loop-property.property-index in
    let p = get_or c.deref-property-items.result.now i _ in
    let faults = λ (q : PlainProperty). fault_if (not (is_extra c.args.self.now q.name)) q.line E8 in
    c.keep_lesser.ensures
    ∙ faults-push faults (map property_view (take i items)) (property_view p) c.loop-property.first c.fault_if.result c.loop-property.invariant
    (c.fault_if.ensures ∙ ap (λ b. least (fault_if (not b) p.line E8)) c.has-is_undeclared.ensures)
    ∙ ap (λ ps. least (flat_map faults ps))
    (sym (map_next-copied property_view items c.deref-property-items.result.now i _ c.loop-property-test.true c.deref-property-items.ensures.value))
