use Rattle.std.proofs.Common.{codes, sym, ◌∙◌}
use Rattle.cudf_text.specs.Stanzas.{plain_text}
use Rattle.cudf_problem.specs.Universe.{plain_problem}
use Rattle.cudf_device.proofs.PaperLemmas.{Prints-as}
use Rattle.cudf_check.specs.JobStyles.{refutation_style}
use Rattle.cudf_check.specs.Report.{refute_answer}
use Rattle.cudf_check.specs.Styles.{of_problem}
use Rattle.cudf_check.specs.Working.Unjudged.{faulty_or}
use Rattle.cudf_check.proofs.ReadingLemmas.{refuted_same}
use Rattle.cudf_check.proofs.report.refute_problem.Goals as goal

pub returns-in-Ok : goal.returns-in-Ok
returns-in-Ok g c =
    let bytes = c.args.bytes.now in
    let proof = c.args.proof.now in
    let style = refutation_style c.args.explain bytes proof in
    let read = c.in-Ok.ensures in
    Prints-as _ _ _ _ _ _ (refuted_same c.args.explain bytes proof _ ∙ (λ k. faulty_or style of_problem (codes "problem") (sym read.sound k) (refute_answer style proof (read.problem k)))) c.report_refutation.ensures

pub returns : goal.returns
returns g c = c.print_unsound.ensures (refute_answer (refutation_style c.args.explain c.args.bytes.now c.args.proof.now) c.args.proof.now (plain_problem (plain_text c.args.bytes.now)))
