use Rattle.std.proofs.Common.{refl, sym}
use Rattle.cudf_calls.proofs.RoomLemmas.{over-none}
use Rattle.cudf_calls.proofs.front.CallerBuffer.new.Goals as goal

pub invariant_of-result : goal.invariant_of-result
invariant_of-result c = rw (c.requires.before, c.requires.report) (record { filled = record { shows = sym (over-none c.args.room.now); counts = refl } })
