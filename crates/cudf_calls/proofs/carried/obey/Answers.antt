use Rattle.std.proofs.Common.{inl, inr}
use Rattle.cudf_calls.proofs.carried.obey.Goals as goal

pub returns-in-Ok : goal.returns-in-Ok
returns-in-Ok c = inl (c.in-Ok.order, c.in-Ok.ensures.asks, c.carry_out.ensures)

pub returns-in-Err : goal.returns-in-Err
returns-in-Err c = inr (c.in-Err.usage, c.in-Err.ensures.asks, c.answer_usage.ensures)
