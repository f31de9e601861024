use Rattle.std.proofs.Common.{◌≡◌, not, map, take}
use Rattle.std.specs.List.{flat_map}
use Rattle.cudf_text.specs.declared.fault.Kind.TheVariants.{E8}
use Rattle.cudf_text.specs.Promises.Views.{property_view}
use Rattle.cudf_document.specs.Faults.{least, fault_if}
use Rattle.cudf_document.specs.Working.DeclaredNames.{is_extra}
use Rattle.cudf_document.proofs.proposed.package.DeclaredNames.first_undeclared.Given as goal

abbrev pub invariant-loop-property : goal.invariant-loop-property
invariant-loop-property l = l.first
    ≡ least (flat_map (λ p. fault_if (not (is_extra l.self p.name)) p.line E8) (map property_view (take l.property-index l.stanza.properties.items)))
