use Rattle.std.proofs.Common.{◌&&◌, ◌∷◌, [], ◌++◌, sym, subst, map}
use Rattle.std.proofs.lemmas.List.{map_push}
use Rattle.cudf_value.specs.Promises.Types.{declaration_view}
use Rattle.cudf_document.proofs.DeclarationLemmas.{Added, Added-next}
use Rattle.cudf_document.proofs.declarations.Declarations.insert_all.Goals as goal

pub loop-declaration-preserved : goal.loop-declaration-preserved
loop-declaration-preserved c =
    let before = c.args.self.now in
    let now = c.insert.new.self in
    let yielded = c.loop-declaration.yielded in
    let d = c.in-Some.declaration in
    let done = map declaration_view yielded in
    subst (λ b. Added before now (map declaration_view (yielded ++ d ∷ [])) b) (sym c.both-are_all.ensures)
    (subst (λ ds. Added before now ds (c.loop-declaration.are_all && c.in_ok-is_added.is_added)) (sym (map_push declaration_view yielded d))
    (Added-next before c.loop-declaration.self done (declaration_view d) c.loop-declaration.are_all c.in_ok-is_added.is_added now
    c.loop-declaration.invariant c.in_ok-is_added.ensures.is_added c.in_ok-is_added.ensures.added))
