use Rattle.cudf_calls.proofs.RoomLemmas.{at_end}
use Rattle.cudf_calls.proofs.front.put.Goals as goal

pub returns-then-at-room-clause-written : goal.returns-then-at-room-clause-written
returns-then-at-room-clause-written c = at_end c.args.room.now c.args.at c.args.text.now _ c.if-at-room.true c.copy_front.ensures
