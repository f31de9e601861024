use Rattle.std.proofs.Common.{◌∙◌, ap, sym, arith, below_more}
use Rattle.cudf_job.specs.KeyViews.{key_view}
use Rattle.cudf_reasons.specs.Reasons.{same_key}
use Rattle.cudf_reasons.proofs.GatherLemmas.{key_read}
use Rattle.cudf_reasons.proofs.gathering.count_of_key.Goals as goal

pub loop-count-preserved : goal.loop-count-preserved
loop-count-preserved c = record {
  within = omega arith;
  same = below_more _ _ c.loop-count.invariant.same
      (ap (same_key (key_view c.args.key)) (key_read c.args.needed.now c.loop-count.count c.index-needed-count.result c.loop-count-test.true) ∙ sym c.is_same.ensures ∙ c.if-is_same.true);
}

pub returns-else-is_same-clause-other : goal.returns-else-is_same-clause-other
returns-else-is_same-clause-other c =
    λ h. ap (same_key (key_view c.args.key)) (key_read c.args.needed.now c.loop-count.count c.index-needed-count.result h) ∙ sym c.is_same.ensures ∙ c.if-is_same.false
