use Rattle.std.proofs.Common.{ap, refl, sym}
use Rattle.cudf_device.proofs.PaperLemmas.{Prints-as}
use Rattle.cudf_check.specs.BetterReport.{judged_as}
use Rattle.cudf_check.specs.Working.Bettered.{question_answer, question_view}
use Rattle.cudf_check.proofs.judging.print_judgement.Goals as goal

pub returns-in-SaysFail : goal.returns-in-SaysFail
returns-in-SaysFail g c =
    Prints-as _ _ _ _ _ _ (ap (judged_as (question_answer (question_view c.args.question) c.args.problem.now)) (sym c.in-SaysFail.is))
    (record { said = c.text-in-SaysFail.ensures; answered = refl; untouched = tt })
