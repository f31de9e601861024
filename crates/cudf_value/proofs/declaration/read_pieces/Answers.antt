use Rattle.std.proofs.Common.{rules}
use Rattle.cudf_value.specs.Promises.Types.{declaration_view}
use Rattle.cudf_value.specs.Working.Rests.{declaration_piece, read_pieces}
use Rattle.cudf_value.proofs.PiecesLemmas.{pieces_step}
use Rattle.cudf_value.proofs.declaration.read_pieces.Goals as goal

pub loop-piece-preserved : goal.loop-piece-preserved
loop-piece-preserved c = (
  search rules,
  rw c.in_ok-push-in-Some-2.ensures.items
      (pieces_step declaration_view declaration_piece (read_pieces declaration_piece c.args.text.now)
      c.loop-piece.declarations.items c.in-Some-2.declaration c.loop-piece.rest.now c.in-Some.piece.now c.in-Some-next.more.now
      c.loop-piece.invariant.1 (rw c.in-Some-next.is at c.in-Some.ensures.pieces) (rw c.in-Some-2.is at c.in_ok-declaration.ensures)),
)
