use Rattle.std.proofs.Common.{◌≡◌, true, false, not, ◌&&◌, map, sym, ap, ◌∙◌}
use Rattle.cudf_text.specs.Stanzas.{plain_text}
use Rattle.cudf_document.specs.Details.{stanza_line}
use Rattle.cudf_problem.specs.Documents.{is_empty}
use Rattle.cudf_referee.specs.Violations.{listing}
use Rattle.cudf_device.proofs.PaperLemmas.{Prints-as}
use Rattle.cudf_check.specs.JobStyles.{explains}
use Rattle.cudf_check.specs.Report.{judged_report}
use Rattle.cudf_check.specs.Working.Found.{found_text}
use Rattle.cudf_check.specs.Working.Named.{instance_style, origins_view}
use Rattle.cudf_check.proofs.ReadingLemmas.{judged_same}
use Rattle.cudf_check.proofs.lines.judged.report_with_referee.Goals as goal

pub returns : goal.returns
returns g c =
    let job = c.args.job.now in
    let s = c.args.referee.now in
    let solution = c.args.inputs.solution.now in
    let lines = c.deref.result.now in
    let told : explains job ≡ true → is_empty (listing s) ≡ false → c.is_explained-explain.result ≡ true =
    λ e some. c.is_explained-explain.ensures ∙ (λ k. e k && not ((c.is_solution.ensures.empty ∙ some) k)) in
    Prints-as _ _ _ _ _ _ (ap (λ w. judged_report (found_text job (instance_style (explains job) w.origins w.lines)) w.judged) c.in_ok-scribe.ensures
    ∙ judged_same job (explains job) (origins_view c.args.inputs.origins) c.args.inputs.problem.now solution lines s
    (λ e some. c.deref.ensures.value ∙ c.in_ok-lines.ensures c.requires.utf8 (told e some) ∙ ap (λ problem. map (stanza_line (plain_text solution).stanzas) problem.packages) (sym c.requires.same)))
    (record { said = c.print_judged.ensures.text; answered = c.print_judged.ensures.outcome; untouched = tt })
