use Rattle.std.proofs.Common.{[], arith, subst}
use Rattle.cudf_better.specs.Cardinality.{Network}
use Rattle.cudf_better.specs.Working.Definitions.{Puts}
use Rattle.cudf_better.proofs.PutLemmas.{added_sums, sums_puts}
use Rattle.cudf_better.proofs.network.put_added.Goals as goal

pub loop-total-preserved : goal.loop-total-preserved
loop-total-preserved c =
    sums_puts c.args.definitions.now c.loop-total.definitions c.put_sum.new.definitions c.finish_variable-variable.new.self c.args.xs.now c.args.ys.now c.loop-total.outputs.items c.push.new.self.items c.loop-total.total c.finish_variable-variable.result
    c.loop-total.invariant c.in_ok-put_sum.ensures c.finish_variable-variable.ensures.next c.finish_variable-variable.ensures.variable c.in_ok-push.ensures.items

pub returns : goal.returns
returns c =
    subst (λ (s : Network). Puts s c.args.definitions.now [] c.loop-total.definitions c.loop-total.outputs.items)
    (added_sums c.args.most c.args.definitions.now.next c.args.xs.now c.args.ys.now c.loop-total.total (omega arith)) c.loop-total.invariant
