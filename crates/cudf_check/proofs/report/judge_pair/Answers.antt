use Rattle.std.proofs.Common.{ap, sym, codes}
use Rattle.cudf_text.specs.Stanzas.{plain_text}
use Rattle.cudf_problem.specs.Universe.{plain_problem}
use Rattle.cudf_device.proofs.PaperLemmas.{Prints-as}
use Rattle.cudf_check.specs.JobStyles.{document_style, explains, pair_style}
use Rattle.cudf_check.specs.Report.{problem_fault, solution_report}
use Rattle.cudf_check.specs.Styles.{of_problem}
use Rattle.cudf_check.specs.Working.Found.{found_text}
use Rattle.cudf_check.specs.Working.Named.{origins_view}
use Rattle.cudf_check.specs.Working.Unjudged.{faulty_or}
use Rattle.cudf_check.proofs.report.judge_pair.Goals as goal

pub returns-in-Ok : goal.returns-in-Ok
returns-in-Ok g c =
    let mode = c.args.setting.mode in
    let job = c.args.job.now in
    let bytes = c.args.inputs.problem.now in
    let solution = c.args.inputs.solution.now in
    let style = pair_style (explains job) (origins_view c.args.inputs.origins) bytes solution in
    let read = c.in-Ok.ensures in
    Prints-as _ _ _ _ _ _ (λ k. faulty_or style of_problem (codes "problem") (sym read.sound k) (solution_report style mode (found_text job style) (read.problem k) solution)) c.judge_proposed.ensures

pub returns : goal.returns
returns g c =
    let mode = c.args.setting.mode in
    let job = c.args.job.now in
    let origins = origins_view c.args.inputs.origins in
    let bytes = c.args.inputs.problem.now in
    let solution = c.args.inputs.solution.now in
    let style = pair_style (explains job) origins bytes solution in
    let rest = solution_report style mode (found_text job style) (plain_problem (plain_text bytes)) solution in
    Prints-as _ _ _ _ _ _ (ap (λ explain. faulty_or (document_style explain origins.problem bytes) of_problem (codes "problem") (problem_fault mode bytes) rest) c.explains.ensures) (c.print_unsound.ensures rest)
