use Rattle.std.proofs.Common.{ap, ◌∙◌, not, bytes_eq, sym, map, ◌++◌, ◌∷◌, [], refl}
use Rattle.std.proofs.lemmas.List.{nil_from_length}
use Rattle.std.specs.List.{list_any}
use Rattle.indexmap.specs.IndexSet.{insert_key}
use Rattle.cudf_document.proofs.NameLemmas.{any_first, any_rest, insert_known, insert_first, insert_rest}
use Rattle.cudf_document.proofs.names.SeenNames.insert.Goals as goal

pub returns-then-is_among : goal.returns-then-is_among
returns-then-is_among c =
    let name = c.args.name.now in
    let known = any_first name c.self.inside.first.items c.self.inside.rest.keys
    (ap (λ first. list_any (λ n. bytes_eq name n.now) first) (sym c.deref.ensures.value) ∙ sym c.if-is_among.ensures) in
    record {
      is_new = ap not (sym known) ∙ ap (λ names. not (list_any (bytes_eq name) names)) c.self.view_is;
      names = insert_known c.args.self.now name (ap (list_any (bytes_eq name)) (sym c.self.view_is) ∙ known);
    }

pub returns-then-is_empty : goal.returns-then-is_empty
returns-then-is_empty c =
    let name = c.args.name.now in
    let unknown = ap (λ first. list_any (λ n. bytes_eq name n.now) first) (sym c.deref.ensures.value) ∙ sym c.if-is_among.ensures in
    let none = nil_from_length c.self.inside.rest.keys (c.if-is_empty.ensures.0 refl) in
    record {
      is_new = ap (λ keys. not (list_any (λ n. bytes_eq name n.now) keys)) (sym none)
          ∙ ap not (sym (any_rest name c.self.inside.first.items c.self.inside.rest.keys unknown))
          ∙ ap (λ names. not (list_any (bytes_eq name) names)) c.self.view_is;
      names = ap (λ first. map (λ n. n.now) (first ++ c.self.inside.rest.keys)) c.in_ok-push.ensures.items
          ∙ ap (λ keys. map (λ n. n.now) ((c.self.inside.first.items ++ c.args.name ∷ []) ++ keys)) none
          ∙ insert_first c.self.inside.first.items c.args.name unknown
          ∙ ap (λ keys. insert_key bytes_eq (map (λ n. n.now) (c.self.inside.first.items ++ keys)) name) (sym none)
          ∙ ap (λ names. insert_key bytes_eq names name) c.self.view_is;
    }

pub returns : goal.returns
returns c =
    let name = c.args.name.now in
    let unknown = ap (λ first. list_any (λ n. bytes_eq name n.now) first) (sym c.deref.ensures.value) ∙ sym c.if-is_among.ensures in
    record {
      is_new = c.in_ok-insert.ensures.added
          ∙ ap not (sym (any_rest name c.self.inside.first.items c.self.inside.rest.keys unknown))
          ∙ ap (λ names. not (list_any (bytes_eq name) names)) c.self.view_is;
      names = ap (λ keys. map (λ n. n.now) (c.self.inside.first.items ++ keys)) c.in_ok-insert.ensures.keys
          ∙ insert_rest c.self.inside.first.items c.self.inside.rest.keys c.args.name unknown
          ∙ ap (λ names. insert_key bytes_eq names name) c.self.view_is;
    }
