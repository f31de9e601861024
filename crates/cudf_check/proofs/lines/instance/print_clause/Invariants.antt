-- The atoms so far are printed after the first one.
use Rattle.std.proofs.Common.{◌≡◌, ◌++◌, map, codes}
use Rattle.std.specs.List.{flat_map}
use Rattle.cudf_value.specs.Promises.Views.{atom_view, atoms_view}
use Rattle.cudf_value.specs.Printing.{atom_text}
use Rattle.cudf_device.specs.Promises.PaperInside.{Says}
use Rattle.cudf_check.proofs.lines.instance.print_clause.Given as goal

abbrev pub invariant-loop-atom : goal.invariant-loop-atom
invariant-loop-atom g l = (map atom_view l.yielded ++ atoms_view l.atom-iterator ≡ atoms_view l.initial.atom-iterator)
    × Says g.W.Sink.state l.initial.paper l.paper (flat_map (λ a. codes " | " ++ atom_text (atom_view a)) l.yielded)
