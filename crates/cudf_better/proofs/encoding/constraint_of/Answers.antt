use Rattle.std.proofs.Common.{refl, not, length, ap, ◌-◌, ◌∙◌, arith}
use Rattle.cudf_better.specs.Better.{items}
use Rattle.cudf_better.proofs.EncodingLemmas.{fits, made_least, made_most}
use Rattle.cudf_better.proofs.encoding.constraint_of.Goals as goal

pub returns-in-Least : goal.returns-in-Least
returns-in-Least c = record {
  is = c.constraint.ensures ∙ made_least c.args.source.now.problem.now c.args.aim c.args.count c.in_ok-items.items c.args.count c.counts_true-is_true.result c.in-Least.is c.in_ok-items.ensures refl c.counts_true-is_true.ensures;
  few = fits (length (items c.args.source.now.problem.now c.args.aim.count)) (omega (arith, c.len-total.ensures, ap length c.in_ok-items.ensures));
}

pub returns-in-Most : goal.returns-in-Most
returns-in-Most c =
    let bound = c.saturating_sub-bound.result in
    record {
      is = c.constraint-in-Most.ensures
          ∙ made_most c.args.source.now.problem.now c.args.aim c.args.count c.in_ok-items.items bound (not c.counts_true-is_true.result) c.in-Most.is c.in_ok-items.ensures
          (c.saturating_sub-bound.ensures ∙ ap (λ n. n - c.args.count) c.len-total.ensures) (ap not c.counts_true-is_true.ensures);
      few = fits (length (items c.args.source.now.problem.now c.args.aim.count)) (omega (arith, c.len-total.ensures, ap length c.in_ok-items.ensures));
    }
