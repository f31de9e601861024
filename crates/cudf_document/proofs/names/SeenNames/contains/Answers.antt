use Rattle.std.proofs.Common.{ap, ◌∙◌, bytes_eq, sym}
use Rattle.std.specs.List.{list_any}
use Rattle.cudf_document.proofs.NameLemmas.{any_first, any_rest}
use Rattle.cudf_document.proofs.names.SeenNames.contains.Goals as goal

pub returns-then-is_among : goal.returns-then-is_among
returns-then-is_among c =
    let name = c.args.name.now in
    let known = ap (λ first. list_any (λ n. bytes_eq name n.now) first) (sym c.deref.ensures.value) ∙ sym c.if-is_among.ensures in
    c.if-is_among.true
    ∙ sym (any_first name c.self.inside.first.items c.self.inside.rest.keys known)
    ∙ ap (list_any (bytes_eq name)) c.self.view_is

pub returns-else-is_among : goal.returns-else-is_among
returns-else-is_among c =
    let name = c.args.name.now in
    let unknown = ap (λ first. list_any (λ n. bytes_eq name n.now) first) (sym c.deref.ensures.value) ∙ sym c.if-is_among.ensures in
    c.contains.ensures
    ∙ sym (any_rest name c.self.inside.first.items c.self.inside.rest.keys unknown)
    ∙ ap (list_any (bytes_eq name)) c.self.view_is
