-- The words so far name the files so far.
use Rattle.std.proofs.Common.{map, take}
use Rattle.cudf_command_line.specs.Command.{AreNamedBy}
use Rattle.cudf_command_line.proofs.command.file_names.Given as goal

abbrev pub invariant-loop-word : goal.invariant-loop-word
invariant-loop-word l = AreNamedBy (map (λ w. w.now) (take l.word-index l.words)) l.names.items
