use Rattle.std.proofs.Common.{map, take, drop, get_or, ◌+◌, ◌++◌, ◌∷◌, [], ◌≡◌, sym, subst, ap, ◌∙◌}
use Rattle.std.proofs.lemmas.List.{append_assoc, map-append, take-append-drop}
use Rattle.cudf_text.specs.Promises.Views.{property_view}
use Rattle.cudf_document.specs.Working.Identities.{IsIdentity}
use Rattle.cudf_document.specs.Working.PackageFields.{package_fields_of}
use Rattle.cudf_problem.proofs.ListLemmas.{map_next-copied}
use Rattle.cudf_document.proofs.PackageLemmas.{package_fields_of-none}
use Rattle.cudf_document.proofs.PropertyLemmas.{IsJudgedTo-none, IsJudgedTo-next}
use Rattle.cudf_document.proofs.package.read_properties.Goals as goal

pub loop-property-init : goal.loop-property-init
loop-property-init c = (
  IsJudgedTo-none _ _ c.clear.new.self c.clear.ensures,
  c.new-fields.ensures ∙ package_fields_of-none c.args.declarations.now,
)

pub loop-property-preserved : goal.loop-property-preserved
loop-property-preserved c =
    let items = c.args.stanza.now.properties.items in
    let i = c.loop-property.property-index in
    let ds = c.args.declarations.now in
    let ps = map property_view (take i items) in
    let later = map property_view (drop (i + 1) items) in
    let item = get_or c.deref-property-items.result.now i _ in
    let p = property_view item in
    let more : map property_view (take (i + 1) items) ≡ ps ++ p ∷ [] = map_next-copied property_view items c.deref-property-items.result.now i _ c.loop-property-test.true c.deref-property-items.ensures.value in
    let all : map property_view items ≡ ps ++ p ∷ later =
    ap (map property_view) (sym (take-append-drop (i + 1) items)) ∙ map-append property_view (take (i + 1) items) (drop (i + 1) items) ∙ ap (λ qs. qs ++ later) more ∙ append_assoc ps (p ∷ []) later in (
      IsJudgedTo-next ds _ ps c.loop-property.names c.loop-property.first p (map property_view (take (i + 1) items)) c.read_property.new.names c.in_ok-fault.fault c.keep_lesser.new.first
          c.loop-property.invariant.0 more c.in_ok-fault.ensures.names
          (c.in_ok-fault.ensures.fault ps later c.loop-property.invariant.0.names_are (subst (IsIdentity c.args.identity) all c.requires))
          c.keep_lesser.ensures,
      c.in_ok-fault.ensures.read ps c.loop-property.invariant.0.names_are c.loop-property.invariant.1 ∙ ap (package_fields_of ds) (sym more),
    )
