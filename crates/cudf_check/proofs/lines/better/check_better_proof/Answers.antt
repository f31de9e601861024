use Rattle.std.proofs.Common.{◌≡◌, length, refl, ap, subst}
use Rattle.cudf_lrat.specs.Answers.{answer_view, checked}
use Rattle.cudf_check.specs.BetterReport.{best_text}
use Rattle.cudf_check.specs.Report.{proof_report}
use Rattle.cudf_check.specs.Styles.{plainly}
use Rattle.cudf_device.proofs.PaperLemmas.{Prints-as, ◌▸◌}
use Rattle.cudf_check.proofs.lines.better.check_better_proof.Goals as goal

pub returns-in-Ok-Faulty : goal.returns-in-Ok-Faulty
returns-in-Ok-Faulty g c =
    let cnf = c.args.cnf.now in
    let proof = c.args.proof.now in
    let found = c.in-Ok-Faulty in
    let shown = subst (λ a. answer_view a ≡ checked cnf.variables cnf.clauses proof) found.field-0-is found.ensures in
    Prints-as _ _ _ _ _ _ (ap (proof_report plainly (length cnf.clauses) (λ core. best_text c.args.aims.now c.args.counts.now)) shown)
    (record { said = c.print_step_fault.ensures; answered = refl; untouched = tt })

pub returns-in-Ok-Refuted : goal.returns-in-Ok-Refuted
returns-in-Ok-Refuted g c =
    let cnf = c.args.cnf.now in
    let proof = c.args.proof.now in
    let found = c.in-Ok-Refuted in
    let shown = subst (λ a. answer_view a ≡ checked cnf.variables cnf.clauses proof) found.field-0-is found.ensures in
    Prints-as _ _ _ _ _ _ (ap (proof_report plainly (length cnf.clauses) (λ core. best_text c.args.aims.now c.args.counts.now)) shown)
    (record { said = c.print_aim_lines.ensures ▸ c.text.ensures; answered = refl; untouched = tt })
