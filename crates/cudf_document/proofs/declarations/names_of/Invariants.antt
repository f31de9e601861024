use Rattle.std.proofs.Common.{take}
use Rattle.cudf_document.specs.Working.Enums.{AreWords}
use Rattle.cudf_document.proofs.declarations.names_of.Given as goal

abbrev pub invariant-loop-word : goal.invariant-loop-word
invariant-loop-word l = AreWords (take l.word-index l.words) l.names
