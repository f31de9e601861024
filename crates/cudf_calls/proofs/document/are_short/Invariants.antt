-- The documents so far are short.
use Rattle.std.proofs.Common.{take}
use Rattle.std.specs.List.{All}
use Rattle.cudf_calls.specs.Calls.{IsShort, texts_of}
use Rattle.cudf_calls.proofs.document.are_short.Given as goal

abbrev pub invariant-loop-document : goal.invariant-loop-document
invariant-loop-document l = All IsShort (texts_of (take l.document-index l.documents))
