use Rattle.std.proofs.Common.{◌≡◌, ◌+◌, map, drop}
use Rattle.cudf_document.specs.Details.{bad_piece}
use Rattle.cudf_document.proofs.details.mistyped.bad_piece.Given as goal

-- it is found among the pieces that are left, after what was declared
abbrev pub invariant-loop-piece : goal.invariant-loop-piece
invariant-loop-piece l = (l.number ≡ l.piece-index)
    × (bad_piece (l.piece-index + 1) l.declarations (map (λ piece. piece.now) (drop l.piece-index l.pieces)) ≡ bad_piece 1 l.initial.declarations (map (λ piece. piece.now) l.pieces))
