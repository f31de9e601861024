use Rattle.std.proofs.Common.{false, sym, ◌∙◌}
use Rattle.cudf_value.specs.Promises.Views.{atom_view, atoms_view, clause_view}
use Rattle.cudf_index.specs.Satisfaction.{meets_clause_alone}
use Rattle.cudf_index.proofs.ClauseLemmas.{all_added, atom_added, atom_passes, own_found}
use Rattle.cudf_index.proofs.index.Index.satisfies_clause_at.Goals as goal

pub loop-atom-preserved : goal.loop-atom-preserved
loop-atom-preserved c =
    atom_added c.args.place c.args.self.now false false (atoms_view c.loop-atom.atom-iterator) (atoms_view c.next.new.self) (atom_view c.in-Some.atom) _
    (sym c.if-satisfies_atom_at.false ∙ c.satisfies_atom_at.ensures) c.in-Some.ensures.steps c.loop-atom.invariant

pub returns-then-satisfies_atom_at : goal.returns-then-satisfies_atom_at
returns-then-satisfies_atom_at c =
    sym (atom_passes c.args.place c.args.self.now false (atoms_view c.loop-atom.atom-iterator) (atoms_view c.next.new.self) (atom_view c.in-Some.atom) _
    (sym c.satisfies_atom_at.ensures ∙ c.if-satisfies_atom_at.true) c.in-Some.ensures.steps c.loop-atom.invariant)
    ∙ own_found (meets_clause_alone (clause_view c.args.clause.now)) c.args.place c.args.self.now

pub returns : goal.returns
returns c =
    all_added c.args.place c.args.self.now false (atoms_view c.loop-atom.atom-iterator) _ c.in-None.ensures.steps.0 c.loop-atom.invariant
    ∙ own_found (meets_clause_alone (clause_view c.args.clause.now)) c.args.place c.args.self.now
