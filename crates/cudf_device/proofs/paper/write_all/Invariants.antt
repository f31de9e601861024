-- The sink took what is gone from the front, and no write failed.
use Rattle.std.proofs.Common.{◌≡◌, length}
use Rattle.cudf_device.proofs.OutputLemmas.{Moved}
use Rattle.cudf_device.proofs.paper.write_all.Given as goal

abbrev pub invariant-loop-rest : goal.invariant-loop-rest
invariant-loop-rest g l = let sink = g.W.Sink in record {
  moved : Moved (sink.state l.fn.sink).contents (sink.state l.sink).contents l.initial.rest l.rest;
  calm : (sink.state l.sink).failures ≡ (sink.state l.fn.sink).failures;
}

abbrev pub decreases-loop-rest : goal.decreases-loop-rest
decreases-loop-rest g l = length l.rest
