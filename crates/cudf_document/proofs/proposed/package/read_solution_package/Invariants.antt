use Rattle.std.proofs.Common.{map, take}
use Rattle.cudf_text.specs.Promises.Views.{property_view}
use Rattle.cudf_document.specs.Working.SolutionPackages.{solution_package_view}
use Rattle.cudf_document.proofs.SolutionPackageLemmas.{IsEnteredTo}
use Rattle.cudf_document.proofs.proposed.package.read_solution_package.Given as goal

abbrev pub invariant-loop-property : goal.invariant-loop-property
invariant-loop-property l = IsEnteredTo (map property_view (take l.property-index l.stanza.properties.items)) l.first (solution_package_view l.entry)
