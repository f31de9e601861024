use Rattle.std.proofs.Common.{◌<◌, length, ap, ◌∙◌, arith}
use Rattle.cudf_check.proofs.JudgingLemmas.{faulty_at}
use Rattle.cudf_check.proofs.judging.judge_each.Goals as goal

pub returns-in-Err-clause-unranked : goal.returns-in-Err-clause-unranked
returns-in-Err-clause-unranked c =
    let below : c.loop-index.index < length c.args.solutions.now = omega arith in
    faulty_at c.args.setting.mode c.args.problem.now (λ b. b.items) c.args.solutions.now c.loop-index.index c.index-solutions-index.result c.loop-index.entrants.items below c.loop-index.invariant
    c.deref.result.now (c.deref.ensures.value ∙ ap (λ b. b.items) c.index-solutions-index.is) c.in-Err.error c.in-Err.ensures.fault
