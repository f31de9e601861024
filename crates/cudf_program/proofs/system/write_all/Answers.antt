use Rattle.std.proofs.Common.{arith}
use Rattle.cudf_device.proofs.OutputLemmas.{Moved-on, failed_writes-Ok}
use Rattle.cudf_program.proofs.system.write_all.Goals as goal

pub loop-rest-preserved : goal.loop-rest-preserved
loop-rest-preserved g c = record {
  moved = Moved-on _ _ _ _ _ c.in-Ok.n c.loop-rest.invariant.moved c.in-Ok.ensures.bytes;
  calm = omega (arith, c.in-Ok.ensures.failed, failed_writes-Ok c.in-Ok.n c.if-n-gt0.true);
}
