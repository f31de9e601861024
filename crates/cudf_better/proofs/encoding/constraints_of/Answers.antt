use Rattle.std.proofs.Common.{arith}
use Rattle.std.proofs.lemmas.List.{get_or_default}
use Rattle.cudf_better.proofs.EncodingLemmas.{constraint_next}
use Rattle.cudf_better.proofs.encoding.constraints_of.Goals as goal

pub loop-aim-preserved : goal.loop-aim-preserved
loop-aim-preserved c =
    constraint_next c.args.source.now.problem.now c.args.counts.now c.args.aims.now c.loop-aim.aim-index _ c.loop-aim.constraints.items c.push.new.self.items c.in_ok-constraint.constraint c.count.result (omega arith)
    c.loop-aim.invariant c.in_ok-constraint.ensures c.count.ensures (get_or_default c.args.aims.now c.loop-aim.aim-index _ _ (omega arith)) c.in_ok-push.ensures.items
