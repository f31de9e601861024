use Rattle.std.proofs.Common.{position, sym, ap, ◌∙◌}
use Rattle.std.specs.List.{list_all}
use Rattle.cudf_value.specs.Working.Atoms.{ends_atom, is_inside}
use Rattle.cudf_value.proofs.AtomLemmas.{inside_found, inside_none}
use Rattle.cudf_value.proofs.atom.cut_atom.Goals as goal

pub returns-in-Some-clause-inside : goal.returns-in-Some-clause-inside
returns-in-Some-clause-inside c =
    ap (list_all is_inside) c.before-in-Some.ensures
    ∙ inside_found c.args.text.now c.in-Some.n (sym (c.in-Some.ensures.value ∙ ap (position ends_atom) c.as_bytes.ensures.value))

pub returns-in-None-clause-inside : goal.returns-in-None-clause-inside
returns-in-None-clause-inside c = inside_none c.args.text.now (sym (c.in-None.ensures.value ∙ ap (position ends_atom) c.as_bytes.ensures.value))
