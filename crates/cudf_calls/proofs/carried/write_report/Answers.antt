use Rattle.std.proofs.Common.{rules}
use Rattle.cudf_calls.proofs.CallLemmas.{reports}
use Rattle.cudf_calls.proofs.carried.write_report.Goals as goal

pub returns-in-Ok : goal.returns-in-Ok
returns-in-Ok c = reports _ c.new-out.result c.write.new.out _ _ _ _ _ c.in-Ok.ensures.written c.new-out.ensures.before (search rules) c.length.ensures c.status.ensures
