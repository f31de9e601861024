use Rattle.std.proofs.Common.{map, take, get_or, ◌+◌, ◌++◌, ◌∷◌, [], ◌≡◌, ◌∙◌}
use Rattle.cudf_text.specs.Promises.Views.{property_view}
use Rattle.cudf_document.specs.Working.RequestFields.{request_fields_view}
use Rattle.cudf_problem.proofs.ListLemmas.{map_next-copied}
use Rattle.cudf_document.proofs.PropertyLemmas.{IsJudgedTo-none, IsJudgedTo-next}
use Rattle.cudf_document.proofs.RequestLemmas.{request_fault, asked_next}
use Rattle.cudf_document.proofs.problem.read_request.Goals as goal

pub loop-property-init : goal.loop-property-init
loop-property-init c = (IsJudgedTo-none _ _ c.clear.new.self c.clear.ensures, c.new-fields.ensures)

pub loop-property-preserved : goal.loop-property-preserved
loop-property-preserved c =
    let items = c.args.stanza.now.properties.items in
    let i = c.loop-property.property-index in
    let names = c.loop-property.names in
    let ps = map property_view (take i items) in
    let item = get_or c.deref-property-items.result.now i _ in
    let p = property_view item in
    let more : map property_view (take (i + 1) items) ≡ ps ++ p ∷ [] =
    map_next-copied property_view items c.deref-property-items.result.now i _ c.loop-property-test.true c.deref-property-items.ensures.value in (
      IsJudgedTo-next _ _ ps names c.loop-property.first p (map property_view (take (i + 1) items)) c.read.new.names c.in_ok-fault.fault c.keep_lesser.new.first
          c.loop-property.invariant.0 more c.in_ok-fault.ensures.names (c.in_ok-fault.ensures.fault ∙ request_fault ps names p c.loop-property.invariant.0.names_are) c.keep_lesser.ensures,
      asked_next ps names (request_fields_view c.loop-property.fields) p (map property_view (take (i + 1) items)) (request_fields_view c.read.new.self)
          c.loop-property.invariant.0.names_are more c.loop-property.invariant.1 c.in_ok-fault.ensures.fields,
    )
