use Rattle.std.proofs.Common.{◌≡◌, ◌<◌, ◌++◌, length, take, get_or, ap, sym, ◌∙◌, arith}
use Rattle.std.specs.List.{flat_map}
use Rattle.cudf_job.specs.KeyViews.{key_view}
use Rattle.cudf_reasons.specs.Views.{Told}
use Rattle.cudf_check.specs.Report.{told_line}
use Rattle.cudf_check.specs.Working.Named.{reason_style}
use Rattle.cudf_device.proofs.PaperLemmas.{Says-as, ◌▸◌, texts-more}
use Rattle.cudf_check.proofs.lines.reasons.ReasonScribe.print_reasons.Goals as goal

pub loop-index-preserved : goal.loop-index-preserved
loop-index-preserved g c =
    let reasons = c.args.reasons.now in
    let i = c.loop-index.index in
    let f = told_line (reason_style c.args.self.now.explain) c.args.self.now.problem in
    let told : Told = (key_view c.key.result, c.met.result.now) in
    let below : i < length reasons = omega (arith, c.len-index-end.ensures, c.loop-index-test.true) in
    let is : get_or reasons i told ≡ told = ap (λ key. (key, (get_or reasons i told).1)) (c.key.ensures told) ∙ ap (λ places. (key_view c.key.result, places)) (c.met.ensures told) in
    record {
      problem = c.print_reason.ensures.finder ∙ c.loop-index.invariant.problem;
      printed = Says-as _ _ _ _ _ (ap (λ t. flat_map f (take i reasons) ++ f t) (sym is) ∙ texts-more f reasons i told below) (c.loop-index.invariant.printed ▸ c.print_reason.ensures.told);
    }
