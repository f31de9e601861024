use Rattle.std.proofs.Common.{◌≡◌, Some, map, take}
use Rattle.std.specs.List.{flat_map}
use Rattle.cudf_text.specs.declared.fault.Kind.TheVariants.{E16}
use Rattle.cudf_text.specs.Promises.Views.{property_view}
use Rattle.cudf_document.specs.Faults.{least, fault_if}
use Rattle.cudf_document.specs.Working.Misplaced.{misplaces}
use Rattle.cudf_document.proofs.names.first_of_all.Given as goal

abbrev pub invariant-loop-property : goal.invariant-loop-property
invariant-loop-property l = l.first
    ≡ least (flat_map (λ p. fault_if (misplaces l.document (Some l.mark) p.name) p.line E16) (map property_view (take l.property-index l.stanza.properties.items)))
