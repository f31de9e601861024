use Rattle.std.proofs.Common.{◌≡◌, map, drop}
use Rattle.cudf_text.specs.Promises.Views.{property_view}
use Rattle.cudf_problem.specs.Preamble.{declared_after}
use Rattle.cudf_document.proofs.declarations.declare_all.Given as goal

-- what is left is declared after what was
abbrev pub invariant-loop-property : goal.invariant-loop-property
invariant-loop-property l = declared_after l.declarations (map property_view (drop l.property-index l.properties)) ≡ declared_after l.initial.declarations (map property_view l.properties)
