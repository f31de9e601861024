use Rattle.std.proofs.Common.{map, take, get_or, ◌+◌}
use Rattle.cudf_text.specs.Promises.Views.{property_view}
use Rattle.cudf_problem.proofs.ListLemmas.{map_next-copied}
use Rattle.cudf_document.proofs.PreambleLemmas.{IsDeclaredTo-next}
use Rattle.cudf_document.proofs.declarations.read_preamble.Goals as goal

pub loop-property-preserved : goal.loop-property-preserved
loop-property-preserved c =
    let items = c.args.stanza.now.properties.items in
    let i = c.loop-property.property-index in
    IsDeclaredTo-next (map property_view (take i items)) c.loop-property.names c.loop-property.first c.loop-property.declarations
    (property_view (get_or c.deref-property-items.result.now i _)) (map property_view (take (i + 1) items)) c.read_property.new.names c.in_ok-fault.fault c.lesser-first.result c.read_property.new.declarations
    c.loop-property.invariant
    (map_next-copied property_view items c.deref-property-items.result.now i _ c.loop-property-test.true c.deref-property-items.ensures.value)
    c.in_ok-fault.ensures.names c.in_ok-fault.ensures.fault c.lesser-first.ensures c.in_ok-fault.ensures.declared
