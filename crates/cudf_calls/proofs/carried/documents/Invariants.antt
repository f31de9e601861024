-- The documents so far are those of the inputs so far.
use Rattle.std.proofs.Common.{take}
use Rattle.std.specs.List.{All, AllZip}
use Rattle.std.specs.Str.{IsUtf8}
use Rattle.cudf_calls.specs.Calls.{names_of}
use Rattle.cudf_calls.specs.Working.Documents.{IsNew}
use Rattle.cudf_calls.proofs.carried.documents.Given as goal

abbrev pub invariant-loop-input : goal.invariant-loop-input
invariant-loop-input l = All IsUtf8 (names_of l.inputs) → AllZip (IsNew l.fn.names_files) (take l.input-index l.inputs) l.documents.items
