use Rattle.std.proofs.Common.{◌≡◌, length, sym, ap, ◌∙◌, arith}
use Rattle.std.proofs.lemmas.List.{length-map}
use Rattle.cudf_problem.specs.Promises.Views.{package_view}
use Rattle.cudf_better.proofs.PackageLemmas.{touched_more}
use Rattle.cudf_better.proofs.items.add_touched.Goals as goal

pub loop-index-preserved : goal.loop-index-preserved
loop-index-preserved c =
    let long : length c.args.source.now.problem.now.packages ≡ length c.packages-index-end.result.now = sym (ap length c.packages-index-end.ensures.packages) ∙ length-map c.packages-index-end.result.now package_view in
    touched_more c.args.source.now.problem.now c.loop-index.index c.args.items.now c.loop-index.items c.push.new.self c.change_literal.result (omega (arith, long, c.loop-index-test.true)) c.loop-index.invariant c.change_literal.ensures c.in_ok-push.ensures
