use Rattle.std.proofs.Common.{◌∙◌, inl, sym}
use Rattle.cudf_calls.proofs.CallLemmas.{explained, says}
use Rattle.cudf_calls.proofs.carried.answer_usage.Goals as goal

pub returns-in-Ok : goal.returns-in-Ok
returns-in-Ok c = says c.args.usage.now _ c.in_default.not-Told (inl (sym c.status.ensures ∙ c.if-status-ne4.false, explained _ _ c.show-in-Ok.ensures.status c.show-in-Ok.ensures.shows))
