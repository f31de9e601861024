use Rattle.std.proofs.Common.{refl, ap, sym, ◌∙◌, Some, None, ◌∷◌, []}
use Rattle.std.specs.Prelude.{slice_get}
use Rattle.cudf_index.specs.Working.Kept.{Keeps}
use Rattle.cudf_index.proofs.FoundLemmas.{keeps_read}
use Rattle.cudf_index.proofs.TakenOffLemmas.{got}
use Rattle.cudf_index.proofs.index.member.PackageProvisions.kept.Goals as goal

pub returns-in-Some : goal.returns-in-Some
returns-in-Some c =
    keeps_read Keeps c.args.name.now _ (c.args.self.now ∷ []) c.self.inside.names.keys c.self.inside.entries.items (Some c.in-Some.number) _
    (ap (λ p. p ∷ []) c.self.view_is) (sym c.in-Some.is ∙ c.get_index_of.ensures.index)
    (got c.deref.result.now c.in-Some.number c.get.result c.get.ensures.lookup.0 c.get.ensures.lookup.1 ∙ ap (λ es. slice_get es c.in-Some.number) c.deref.ensures.value)
    (c.self.invariant.0 c.args.name.now)

pub returns-in-None : goal.returns-in-None
returns-in-None c =
    keeps_read Keeps c.args.name.now _ (c.args.self.now ∷ []) c.self.inside.names.keys c.self.inside.entries.items None _
    (ap (λ p. p ∷ []) c.self.view_is) (sym c.in-None.is ∙ c.get_index_of.ensures.index) refl
    (c.self.invariant.0 c.args.name.now)
