use Rattle.cudf_value.proofs.AtomLemmas.{atom_step}
use Rattle.cudf_value.proofs.atom.next_atom.Goals as goal

pub unwrap-requires : goal.unwrap-requires
unwrap-requires c = (atom_step c.args.text.now c.first_atom.result.0 c.first_atom.result.1 c.first_atom.ensures.values c.requires.sound).some

pub returns-clause-taken : goal.returns-clause-taken
returns-clause-taken c =
    let step = atom_step c.args.text.now c.first_atom.result.0 c.first_atom.result.1 c.first_atom.ensures.values c.requires.sound in
    rw c.behind_bar.ensures (step.taken c.unwrap.result c.unwrap.ensures).whole

pub returns-clause-sound : goal.returns-clause-sound
returns-clause-sound c =
    let step = atom_step c.args.text.now c.first_atom.result.0 c.first_atom.result.1 c.first_atom.ensures.values c.requires.sound in
    rw c.behind_bar.ensures step.sound
