use Rattle.std.proofs.Common.{ap, codes}
use Rattle.cudf_device.specs.declared.outcome.Outcome.TheVariants.{Yes}
use Rattle.cudf_device.proofs.PaperLemmas.{Prints-as}
use Rattle.cudf_check.specs.JobStyles.{document_style}
use Rattle.cudf_check.specs.Report.{alone, problem_fault}
use Rattle.cudf_check.specs.Styles.{of_problem}
use Rattle.cudf_check.specs.Working.Unjudged.{faulty_or}
use Rattle.cudf_check.proofs.report.lint_problem.Goals as goal

pub returns-in-Err : goal.returns-in-Err
returns-in-Err g c =
    let bytes = c.args.problem.bytes.now in
    let sound = alone (codes "problem ok") Yes in
    Prints-as _ _ _ _ _ _ (ap (λ origin. faulty_or (document_style c.args.explain origin bytes) of_problem (codes "problem") (problem_fault c.args.setting.mode bytes) sound) c.own_file-origin.ensures)
    (c.print_unsound.ensures sound)
