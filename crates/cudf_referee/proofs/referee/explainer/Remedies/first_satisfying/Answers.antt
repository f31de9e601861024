use Rattle.std.proofs.Common.{[], ◌∷◌, ◌++◌, map, ap, sym, ◌∙◌, append_assoc}
use Rattle.std.proofs.lemmas.List.{map_push}
use Rattle.cudf_value.specs.Promises.Views.{atom_view, atoms_view}
use Rattle.cudf_referee.specs.Working.Firsts.{searched}
use Rattle.cudf_referee.proofs.RemedyLemmas.{no_atom, atoms_push}
use Rattle.cudf_referee.proofs.referee.explainer.Remedies.first_satisfying.Goals as goal

pub loop-atom-init : goal.loop-atom-init
loop-atom-init c = (sym (no_atom (searched c.args.self.now c.args.among)), ap atoms_view c.into_iter-atom-iterator.ensures.into_iter_gives ∙ c.atoms-atom-items.ensures)

pub loop-atom-preserved : goal.loop-atom-preserved
loop-atom-preserved c =
    let before = c.loop-atom.yielded in
    let atom = c.in-Some.atom in
    let rest = atoms_view c.next.new.self in (
      atoms_push before atom c.args.self.now c.args.among _ _ _ c.loop-atom.invariant.0 c.first_for.ensures c.lesser_of-first.ensures,
      ap (λ l. l ++ rest) (map_push atom_view before atom) ∙ append_assoc (map atom_view before) (atom_view atom ∷ []) rest
          ∙ ap (λ l. map atom_view before ++ l) (sym c.in-Some.ensures.steps) ∙ c.loop-atom.invariant.1,
    )
