use Rattle.std.proofs.Common.{Some, None, option_map, ap, ◌∙◌}
use Rattle.cudf_value.specs.Misfits.{type_word}
use Rattle.cudf_value.specs.Promises.Types.{type_view}
use Rattle.cudf_document.specs.Details.{mistyped_as}
use Rattle.cudf_document.proofs.DetailLemmas.{known_word, declared_word}
use Rattle.cudf_document.proofs.details.mistyped.package_type_error.Goals as goal

pub returns-in-Some : goal.returns-in-Some
returns-in-Some c =
    let p = c.args.property.now in
    ap Some c.mismatch_detail.ensures
    ∙ ap (option_map (mistyped_as p.name.now p.value.now))
    (known_word p.name.now c.args.declarations.now (type_word (type_view c.in-Some.kind)) c.in-Some.ensures)

pub returns-in-Some-kind : goal.returns-in-Some-kind
returns-in-Some-kind c =
    let p = c.args.property.now in
    ap Some c.mismatch_detail-in-Some-kind.ensures
    ∙ ap (option_map (mistyped_as p.name.now p.value.now))
    (declared_word p.name.now c.args.declarations.now (Some (type_view c.in-Some-kind.kind.now)) c.in-None.ensures c.in-Some-kind.ensures)

pub returns-in-None-kind : goal.returns-in-None-kind
returns-in-None-kind c =
    let p = c.args.property.now in
    ap (option_map (mistyped_as p.name.now p.value.now))
    (declared_word p.name.now c.args.declarations.now None c.in-None.ensures c.in-None-kind.ensures)
