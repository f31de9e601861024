use Rattle.std.proofs.Common.{if◌then◌else◌, refl, sym, subst, codes}
use Rattle.cudf_text.specs.Joined.{is_fail}
use Rattle.cudf_device.specs.declared.outcome.Outcome.TheVariants.{Fail}
use Rattle.cudf_device.proofs.PaperLemmas.{Prints-as}
use Rattle.cudf_check.specs.Report.{alone, solution_fault}
use Rattle.cudf_check.specs.Styles.{of_solution}
use Rattle.cudf_check.specs.Working.Named.{style_for}
use Rattle.cudf_check.specs.Working.Unjudged.{IsUnjudged, faulty_or}
use Rattle.cudf_check.proofs.report.print_unjudged.Goals as goal

pub returns-in-SaysFail : goal.returns-in-SaysFail
returns-in-SaysFail g c = λ names report is.
    let solution = c.args.solution in
    let unjudged = subst (IsUnjudged c.args.setting.mode names solution.bytes.now) c.in-SaysFail.is is in
    Prints-as _ _ _ _ _ _ (λ k. faulty_or (style_for solution) of_solution solution.whose.now (sym unjudged.0 k)
    (if sym unjudged.1 k then alone (codes "solution FAIL") Fail else report))
    (record { said = c.text.ensures; answered = refl; untouched = tt })

pub returns-in-Unread : goal.returns-in-Unread
returns-in-Unread g c = λ names report is.
    let mode = c.args.setting.mode in
    let bytes = c.args.solution.bytes.now in
    let rest = if is_fail bytes then alone (codes "solution FAIL") Fail else report in
    c.print_unread.ensures (solution_fault mode names bytes) rest (subst (IsUnjudged mode names bytes) c.in-Unread.is is)
