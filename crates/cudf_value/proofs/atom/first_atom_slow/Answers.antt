use Rattle.std.proofs.Common.{sym, ap, ◌∙◌}
use Rattle.cudf_value.specs.Working.Atoms.{values, values_of}
use Rattle.cudf_value.proofs.AtomLemmas.{values_cut}
use Rattle.cudf_value.proofs.atom.first_atom_slow.Goals as goal

pub returns-clause-values : goal.returns-clause-values
returns-clause-values c =
    ap values c.cut_atom.ensures.text
    ∙ values_cut c.cut_atom.result.0.now c.cut_atom.result.1 c.cut_atom.ensures.inside
    ∙ ap (λ a. values_of a c.cut_atom.result.1) (sym c.read_atom.ensures)
