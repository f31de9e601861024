use Rattle.std.proofs.Common.{◌≡◌, length, map}
use denote.Text.{Utf8}
use denote.Shadow.{shadow}
use Rattle.cudf_value.specs.Promises.Types.{declaration_view}
use Rattle.cudf_value.specs.Working.Rests.{declaration_piece, read_pieces}
use Rattle.cudf_value.proofs.PartsLemmas.{onto}
use Rattle.cudf_value.proofs.declaration.read_pieces.Given as goal

abbrev pub invariant-loop-piece : goal.invariant-loop-piece
invariant-loop-piece l = shadow (Utf8 l.rest)
    × (onto (map declaration_view l.declarations.items) (read_pieces declaration_piece l.rest) ≡ read_pieces declaration_piece l.text)

abbrev pub decreases-loop-piece : goal.decreases-loop-piece
decreases-loop-piece l = length l.rest
