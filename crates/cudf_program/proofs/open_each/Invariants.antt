-- The files so far are open; there is enough of standard input for the others, and it is the one that was given.
use Rattle.std.proofs.Common.{◌≡◌, ◌≤◌, Some, IfSome, count_by, drop, length, map, option_map, take}
use Rattle.std.specs.List.{AllZip}
use Rattle.std.specs.Option.{option_to_list}
use Rattle.cudf_device.specs.Promises.NamedInside.{name_of}
use Rattle.cudf_command_line.specs.Command.{is_standard}
use Rattle.cudf_program.specs.Inputs.{IsOpenedAs, label, left_of}
use Rattle.cudf_program.proofs.open_each.Given as goal

abbrev pub invariant-loop-name : goal.invariant-loop-name
invariant-loop-name g l = record {
  opened : AllZip (IsOpenedAs (g.R.System.opens l.fn.rt) (option_map g.S.Read.remaining l.fn.standard) (left_of g.R.File.Read.remaining g.S.Read.remaining))
      (take l.name-index l.names) l.readers.items;
  enough : count_by is_standard (drop l.name-index l.names) ≤ length (option_to_list l.standard);
  same : IfSome l.standard (λ given. l.fn.standard ≡ Some given);
  named : map name_of l.readers.items ≡ map (label l.names_files) (take l.name-index l.names);
}
