use Rattle.std.proofs.Common.{◌++◌, ◌∷◌, [], true, false, map, sym, ap, ◌∙◌}
use Rattle.std.proofs.lemmas.List.{append-nil, map_push}
use Rattle.cudf_document.proofs.DeclarationLemmas.{named_unless}
use Rattle.cudf_document.proofs.declarations.push_required.Goals as goal

pub returns-then-has_default : goal.returns-then-has_default
returns-then-has_default c =
    let names = map (λ n. n.now) c.args.names.now.items in
    sym (append-nil names) ∙ ap (λ l. names ++ l) (sym (named_unless c.args.declared.now true (sym c.if-has_default.true ∙ c.has_default.ensures)))

pub returns : goal.returns
returns c =
    let names = map (λ n. n.now) c.args.names.now.items in
    ap (map (λ n. n.now)) c.in_ok-push.ensures.items ∙ map_push (λ n. n.now) c.args.names.now.items c.name.result
    ∙ ap (λ n. names ++ n ∷ []) c.name.ensures
    ∙ ap (λ l. names ++ l) (sym (named_unless c.args.declared.now false (sym c.if-has_default.false ∙ c.has_default.ensures)))
