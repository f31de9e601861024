-- The words after those so far tell it.
use Rattle.std.proofs.Common.{◌≡◌, map, drop, string_bytes}
use Rattle.cudf_command_line.specs.Command.{has_list_apart}
use Rattle.cudf_command_line.proofs.command.has_list_apart.Given as goal

abbrev pub invariant-loop-word : goal.invariant-loop-word
invariant-loop-word l = has_list_apart (map string_bytes (drop l.word-index l.words)) ≡ has_list_apart (map string_bytes l.words)
