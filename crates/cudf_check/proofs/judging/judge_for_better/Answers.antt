use Rattle.std.proofs.Common.{codes, sym}
use Rattle.cudf_device.proofs.PaperLemmas.{Prints-as}
use Rattle.cudf_check.specs.BetterReport.{judged_as}
use Rattle.cudf_check.specs.RankReport.{judgement}
use Rattle.cudf_check.specs.Report.{solution_fault}
use Rattle.cudf_check.specs.Styles.{of_solution, plainly}
use Rattle.cudf_check.specs.Working.Bettered.{question_answer, question_view}
use Rattle.cudf_check.specs.Working.Unjudged.{faulty_or}
use Rattle.cudf_check.proofs.judging.judge_for_better.Goals as goal

pub returns-in-Ok : goal.returns-in-Ok
returns-in-Ok g c =
    let judged = c.in-Ok.ensures.judged in
    Prints-as _ _ _ _ _ _ (λ k. faulty_or plainly of_solution (codes "solution") (sym judged.sound k) (judged_as (question_answer (question_view c.args.question) c.args.problem.now) (judged.found k)))
    c.print_judgement.ensures

pub returns-in-Err : goal.returns-in-Err
returns-in-Err g c =
    let mode = c.args.setting.mode in
    let problem = c.args.problem.now in
    let bytes = c.args.solution.now in
    c.print_unread.ensures (solution_fault mode problem.extra_names bytes) (judged_as (question_answer (question_view c.args.question) problem) (judgement problem bytes)) c.in-Err.ensures.fault
