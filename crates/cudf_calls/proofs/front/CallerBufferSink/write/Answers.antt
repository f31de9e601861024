use Rattle.cudf_calls.proofs.RoomLemmas.{written}
use Rattle.cudf_calls.proofs.front.CallerBufferSink.write.Goals as goal

pub invariant_of-self : goal.invariant_of-self
invariant_of-self c =
    record { filled = written _ _ _ _ _ _ _ _ c.args.self.now.filled c.put.ensures.few c.put.ensures.written c.saturating_add-self.ensures c.append.ensures }
