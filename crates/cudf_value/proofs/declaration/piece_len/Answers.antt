use Rattle.std.proofs.Common.{arith, sym, ◌∙◌}
use Rattle.cudf_value.specs.Working.Spots.{spot_of}
use Rattle.cudf_value.proofs.SpotLemmas.{len_step, spot_step}
use Rattle.cudf_value.proofs.declaration.piece_len.Goals as goal

pub loop-n-preserved : goal.loop-n-preserved
loop-n-preserved c = record {
  inside = omega arith;
  len = rw c.next-state.ensures
      (len_step c.as_bytes-bytes.result.now c.loop-n.n (spot_of c.loop-n.state) c.loop-n-test.true (sym c.separates.ensures ∙ c.if-not-separates.true)
      ∙ c.loop-n.invariant.len);
  state = c.next-state.ensures ∙ spot_step c.as_bytes-bytes.result.now c.loop-n.n (spot_of c.loop-n.state) c.loop-n-test.true c.loop-n.invariant.state;
}
