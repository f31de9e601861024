use Rattle.std.proofs.Common.{◌<◌, ◌∷◌, length, option_map, drop, ◌+◌, ap, sym, ◌∙◌, arith}
use Rattle.cudf_value.specs.Spots.{pieces}
use Rattle.cudf_value.specs.Working.Spots.{spot_of}
use Rattle.cudf_value.proofs.SpotLemmas.{pieces_more, whole_piece}
use Rattle.cudf_value.proofs.declaration.cut_piece.Goals as goal

pub returns-then-n-text-clause-pieces : goal.returns-then-n-text-clause-pieces
returns-then-n-text-clause-pieces c =
    whole_piece c.args.text.now c.piece_len-n.result.0 (spot_of c.piece_len-n.result.1) c.if-n-text.true c.piece_len-n.ensures.len c.piece_len-n.ensures.state
    (sym c.is_outside.ensures ∙ c.if-not-is_outside.false)

pub returns-clause-pieces : goal.returns-clause-pieces
returns-clause-pieces c =
    let inside : c.piece_len-n.result.0 < length c.args.text.now = omega arith in
    pieces_more c.args.text.now c.piece_len-n.result.0 (spot_of c.piece_len-n.result.1) inside c.piece_len-n.ensures.len c.piece_len-n.ensures.state
    (c.piece_len-n.ensures.end inside)
    ∙ ap (λ front. option_map (λ ps. front ∷ ps) (pieces (drop (c.piece_len-n.result.0 + 1) c.args.text.now))) (sym c.before-2.ensures)
    ∙ ap (λ more. option_map (λ ps. c.before-2.result.now ∷ ps) (pieces more)) (sym c.after.ensures)
