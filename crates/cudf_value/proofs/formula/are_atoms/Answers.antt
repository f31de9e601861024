use Rattle.std.proofs.Common.{option_map, sym, ap, ◌∙◌, rules}
use Rattle.cudf_value.specs.Promises.Views.{atom_view}
use Rattle.cudf_value.proofs.AtomLemmas.{judged_none, judged_some, judged_after, is_some-map}
use Rattle.cudf_value.proofs.formula.are_atoms.Goals as goal

pub returns-then-is_none : goal.returns-then-is_none
returns-then-is_none c =
    sym (judged_none c.atoms.rest.now (option_map atom_view c.first_atom.result.0) c.first_atom.result.1 c.first_atom.ensures.values
    (is_some-map atom_view c.first_atom.result.0 ∙ c.if-is_none.ensures))
    ∙ c.atoms.invariant.1

pub atoms-preserved : goal.atoms-preserved
atoms-preserved c = (
  search rules,
  ap judged_after c.in-Some.ensures
      ∙ sym (judged_some c.atoms.rest.now (option_map atom_view c.first_atom.result.0) c.first_atom.result.1 c.first_atom.ensures.values
      (is_some-map atom_view c.first_atom.result.0 ∙ c.if-is_none.ensures))
      ∙ c.atoms.invariant.1,
)

pub returns-in-None : goal.returns-in-None
returns-in-None c =
    ap judged_after c.in-None.ensures
    ∙ sym (judged_some c.atoms.rest.now (option_map atom_view c.first_atom.result.0) c.first_atom.result.1 c.first_atom.ensures.values
    (is_some-map atom_view c.first_atom.result.0 ∙ c.if-is_none.ensures))
    ∙ c.atoms.invariant.1
