use Rattle.std.proofs.Common.{◌≡◌, ◌++◌, map}
use Rattle.std.specs.Prelude.{flat_map}
use Rattle.std.specs.Fmt.{HasWritten, IsPlainFormatter}
use Rattle.cudf_value.specs.Promises.Views.{atom_view, atoms_view}
use Rattle.cudf_value.proofs.PrintingLemmas.{next_atom_text}
use Rattle.cudf_value.proofs.vpkg.ClauseDisplay.fmt.Given as goal

abbrev pub invariant-loop-atom : goal.invariant-loop-atom
invariant-loop-atom g l = (map atom_view l.yielded ++ atoms_view l.atom-iterator ≡ atoms_view l.initial.atom-iterator)
    × (IsPlainFormatter l.initial.f → HasWritten g.W.Write.write_str_gives l.initial.f (flat_map next_atom_text l.yielded) l.f)
