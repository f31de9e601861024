use Rattle.std.proofs.Common.{◌+◌, map, take, get_or, refl}
use Rattle.cudf_text.specs.Promises.Views.{property_view}
use Rattle.cudf_problem.proofs.ListLemmas.{map_next-copied}
use Rattle.cudf_document.proofs.NameLemmas.{AreNames-more}
use Rattle.cudf_document.proofs.details.mistyped.names_in.Goals as goal

pub loop-property-preserved : goal.loop-property-preserved
loop-property-preserved c =
    let ps = c.args.properties.now in
    let i = c.loop-property.property-index in
    AreNames-more c.loop-property.names (map property_view (take i ps)) (property_view (get_or ps i _)) (map property_view (take (i + 1) ps)) c.insert.new.self
    c.loop-property.invariant (map_next-copied property_view ps ps i _ c.loop-property-test.true refl) c.in_ok-insert.ensures.names
