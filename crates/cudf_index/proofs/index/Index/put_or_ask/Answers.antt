use Rattle.std.proofs.Common.{◌||◌, ap, ◌∙◌}
use Rattle.cudf_value.specs.Promises.Views.{atom_view, atoms_view}
use Rattle.cudf_index.specs.Satisfaction.{meets_clause_alone}
use Rattle.cudf_index.specs.Working.Places.{passes_at}
use Rattle.cudf_index.specs.Working.Questions.{will_have}
use Rattle.cudf_index.proofs.ClauseLemmas.{adds_else, atom_added, atom_passes, all_added, passes_then}
use Rattle.cudf_index.proofs.QuestionLemmas.{will_have_same}
use Rattle.cudf_index.proofs.index.Index.put_or_ask.Goals as goal

pub loop-atom-preserved : goal.loop-atom-preserved
loop-atom-preserved c = λ place.
    let status = c.args.self.now in
    ap (λ b. b || passes_at (meets_clause_alone (atoms_view c.next.new.self)) place status)
    (will_have_same _ _ c.put_or_ask_atom.new.questions.items status place (c.sort_and_dedup_if_long.ensures.same place))
    ∙ atom_added place status (will_have c.loop-atom.places.items c.loop-atom.questions.items status place) (will_have c.put_or_ask_atom.new.places.items c.put_or_ask_atom.new.questions.items status place)
    (atoms_view c.loop-atom.atom-iterator) (atoms_view c.next.new.self) (atom_view c.in-Some.atom) _
    (adds_else _ _ _ _ _ _ _ _ c.if-branch.false c.in_ok-put_or_ask_atom.ensures place) c.in-Some.ensures.steps (c.loop-atom.invariant place)

pub returns-then-branch : goal.returns-then-branch
returns-then-branch c =
    atom_passes c.args.own c.args.self.now _ (atoms_view c.loop-atom.atom-iterator) (atoms_view c.next.new.self) (atom_view c.in-Some.atom) _
    (passes_then _ _ _ _ _ _ _ _ c.if-branch.true c.in_ok-put_or_ask_atom.ensures) c.in-Some.ensures.steps (c.loop-atom.invariant c.args.own)

pub returns : goal.returns
returns c = λ place. all_added place c.args.self.now _ (atoms_view c.loop-atom.atom-iterator) _ c.in-None.ensures.steps.0 (c.loop-atom.invariant place)
