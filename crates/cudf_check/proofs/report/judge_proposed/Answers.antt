use Rattle.std.proofs.Common.{ap, codes, map, if◌then◌else◌}
use Rattle.std.specs.FinSet as set
use Rattle.cudf_text.specs.Joined.{is_fail}
use Rattle.cudf_text.specs.Stanzas.{plain_text}
use Rattle.cudf_problem.specs.Statuses.{is_initial}
use Rattle.cudf_problem.specs.Promises.Views.{unknown_view}
use Rattle.cudf_referee.specs.Proposals.{proposal}
use Rattle.cudf_device.specs.declared.outcome.Outcome.TheVariants.{Fail}
use Rattle.cudf_device.proofs.PaperLemmas.{Prints-as}
use Rattle.cudf_check.specs.JobStyles.{document_style, explains, pair_style}
use Rattle.cudf_check.specs.Report.{alone, judged_report, proposal_of, solution_fault}
use Rattle.cudf_check.specs.Styles.{of_solution}
use Rattle.cudf_check.specs.Working.Found.{found_text}
use Rattle.cudf_check.specs.Working.Named.{origins_view}
use Rattle.cudf_check.specs.Working.Unjudged.{faulty_or}
use Rattle.cudf_check.proofs.ReadingLemmas.{put_forward, solution_judged}
use Rattle.cudf_check.proofs.report.judge_proposed.Goals as goal

pub returns-in-Ok : goal.returns-in-Ok
returns-in-Ok g c =
    let job = c.args.job.now in
    let problem = c.args.problem.now in
    let bytes = c.args.inputs.solution.now in
    let style = pair_style (explains job) (origins_view c.args.inputs.origins) c.args.inputs.problem.now bytes in
    let text = plain_text bytes in
    let read = c.in-Ok.ensures in
    let of = c.in_ok-solution-in-Ok.ensures in
    let placed = c.in_ok-solution-in-Ok.solution in
    let s = proposal problem (is_initial problem) (set.contains placed.status) (map unknown_view placed.unknown.items) in
    Prints-as _ _ _ _ _ _ (solution_judged style c.args.setting.mode (found_text job style) problem bytes s read.sound read.goes_on
    (put_forward problem text (set.contains placed.status) (map unknown_view placed.unknown.items) (of.status text.stanzas read.proposed) (of.unknown text.stanzas read.proposed)))
    c.judge_solution.ensures

pub returns : goal.returns
returns g c =
    let job = c.args.job.now in
    let mode = c.args.setting.mode in
    let origins = origins_view c.args.inputs.origins in
    let problem = c.args.problem.now in
    let bytes = c.args.inputs.solution.now in
    let found = found_text job (pair_style (explains job) origins c.args.inputs.problem.now bytes) in
    let judged = judged_report found (proposal_of problem (plain_text bytes)) in
    Prints-as _ _ _ _ _ _ (ap (λ explain. faulty_or (document_style explain origins.solution bytes) of_solution (codes "solution") (solution_fault mode problem.extra_names bytes)
    (if is_fail bytes then alone (codes "solution FAIL") Fail else judged)) c.explains.ensures)
    (c.print_unjudged.ensures problem.extra_names judged c.in-Err.ensures.unjudged)
