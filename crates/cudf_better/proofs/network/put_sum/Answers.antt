use Rattle.std.proofs.Common.{ap, ◌-◌, ◌∙◌, arith}
use Rattle.cudf_better.specs.Cardinality.{at_least, both_of}
use Rattle.cudf_better.specs.Working.Definitions.{PlainDefinitions, with_terms}
use Rattle.cudf_better.proofs.PutLemmas.{sum_last, sum_more}
use Rattle.cudf_better.proofs.network.put_sum.Goals as goal

pub loop-i-preserved : goal.loop-i-preserved
loop-i-preserved c =
    c.in_ok-put_pair.ensures
    ∙ ap (λ (g : PlainDefinitions). with_terms g (both_of (at_least c.loop-i.i c.args.xs.now) (at_least (c.args.total - c.loop-i.i) c.args.ys.now))) c.loop-i.invariant
    ∙ sum_more c.args.definitions.now c.args.xs.now c.args.ys.now c.args.total c.loop-i.i

pub returns-in_ok-put_pair : goal.returns-in_ok-put_pair
returns-in_ok-put_pair c =
    c.in_ok-put_pair.ensures
    ∙ ap (λ (g : PlainDefinitions). with_terms g (both_of (at_least c.loop-i.i c.args.xs.now) (at_least (c.args.total - c.loop-i.i) c.args.ys.now))) c.loop-i.invariant
    ∙ sum_last c.args.definitions.now c.args.xs.now c.args.ys.now c.args.total c.loop-i.i (omega arith)
