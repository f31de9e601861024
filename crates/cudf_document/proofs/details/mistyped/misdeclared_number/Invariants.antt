use Rattle.std.proofs.Common.{◌≡◌, [], map, drop}
use Rattle.cudf_text.specs.Promises.Views.{property_view}
use Rattle.cudf_document.specs.Working.Details.{misdeclared_in}
use Rattle.cudf_document.proofs.details.mistyped.misdeclared_number.Given as goal

-- it is found in what is left, after what was declared
abbrev pub invariant-loop-property : goal.invariant-loop-property
invariant-loop-property l = misdeclared_in l.declarations l.line (map property_view (drop l.property-index l.stanza.properties.items))
    ≡ misdeclared_in [] l.line (map property_view l.stanza.properties.items)
