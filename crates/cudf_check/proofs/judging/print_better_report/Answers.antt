use Rattle.std.proofs.Common.{codes, sym}
use Rattle.cudf_text.specs.Stanzas.{plain_text}
use Rattle.cudf_problem.specs.Universe.{plain_problem}
use Rattle.cudf_device.proofs.PaperLemmas.{Prints-as}
use Rattle.cudf_check.specs.BetterReport.{better_report}
use Rattle.cudf_check.specs.Styles.{of_problem, plainly}
use Rattle.cudf_check.specs.Working.Bettered.{question_answer, question_view}
use Rattle.cudf_check.specs.Working.Unjudged.{faulty_or}
use Rattle.cudf_check.proofs.judging.print_better_report.Goals as goal

pub returns-in-Ok : goal.returns-in-Ok
returns-in-Ok g c =
    let read = c.in-Ok.ensures in
    let answer_of = better_report plainly c.args.setting.mode (question_answer (question_view c.args.question)) c.args.solution.now in
    Prints-as _ _ _ _ _ _ (λ k. faulty_or plainly of_problem (codes "problem") (sym read.sound k) (answer_of (read.problem k))) c.judge_for_better.ensures

pub returns : goal.returns
returns g c =
    c.print_unsound.ensures (better_report plainly c.args.setting.mode (question_answer (question_view c.args.question)) c.args.solution.now (plain_problem (plain_text c.args.problem.now)))
