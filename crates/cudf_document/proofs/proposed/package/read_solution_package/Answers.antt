use Rattle.std.proofs.Common.{map, take, get_or, ◌+◌}
use Rattle.cudf_text.specs.Promises.Views.{property_view}
use Rattle.cudf_document.specs.Working.SolutionPackages.{solution_package_view}
use Rattle.cudf_problem.proofs.ListLemmas.{map_next-copied}
use Rattle.cudf_document.proofs.SolutionPackageLemmas.{IsEnteredTo-next}
use Rattle.cudf_document.proofs.proposed.package.read_solution_package.Goals as goal

pub loop-property-preserved : goal.loop-property-preserved
loop-property-preserved c =
    let items = c.args.stanza.now.properties.items in
    let i = c.loop-property.property-index in
    IsEnteredTo-next (map property_view (take i items)) c.loop-property.first (solution_package_view c.loop-property.entry)
    (property_view (get_or c.deref-property-items.result.now i _)) (map property_view (take (i + 1) items)) c.read-fault.result c.keep_lesser.new.first (solution_package_view c.read-fault.new.self)
    c.loop-property.invariant
    (map_next-copied property_view items c.deref-property-items.result.now i _ c.loop-property-test.true c.deref-property-items.ensures.value)
    c.read-fault.ensures.fault c.keep_lesser.ensures c.read-fault.ensures.entry
