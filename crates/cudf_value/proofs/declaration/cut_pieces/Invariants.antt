use Rattle.std.proofs.Common.{◌≡◌, length, map}
use denote.Text.{Utf8}
use denote.Shadow.{shadow}
use Rattle.cudf_value.specs.Spots.{pieces}
use Rattle.cudf_value.proofs.PartsLemmas.{onto}
use Rattle.cudf_value.proofs.declaration.cut_pieces.Given as goal

abbrev pub invariant-loop-piece : goal.invariant-loop-piece
invariant-loop-piece l = shadow (Utf8 l.rest) × (onto (map (λ piece. piece.now) l.found.items) (pieces l.rest) ≡ pieces l.text)

abbrev pub decreases-loop-piece : goal.decreases-loop-piece
decreases-loop-piece l = length l.rest
