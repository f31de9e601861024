use Rattle.std.proofs.Common.{ℕ, Bool, List, bytes_eq, Bor, ap, sym, ◌∙◌}
use Rattle.std.specs.List.{list_any}
use Rattle.cudf_value.proofs.TypeLemmas.{list_any-map}
use Rattle.cudf_value.proofs.declaration.takes_quoted.Goals as goal

pub returns-in-Choice : goal.returns-in-Choice
returns-in-Choice c =
    let test : Bor (List ℕ) → Bool = λ ident. bytes_eq ident.now c.args.text.now in
    rw c.in-Choice.is
    (c.is_one_of.ensures
    ∙ ap (λ idents. list_any test idents) c.deref.ensures.value
    ∙ sym (list_any-map (λ word. bytes_eq word c.args.text.now) (λ ident. ident.now) c.in-Choice.idents.items))
