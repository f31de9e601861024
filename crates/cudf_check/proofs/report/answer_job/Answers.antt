use Rattle.std.proofs.Common.{rules}
use Rattle.cudf_device.proofs.PaperLemmas.{Prints-same}
use Rattle.cudf_check.proofs.report.answer_job.Goals as goal

pub returns : goal.returns
returns g c =
    let same = Prints-same _ _ _ _ _ c.print_report-answer.ensures in
    let said = c.finish.ensures _ _ _ c.new-paper.ensures.blank c.print_report-answer.ensures in
    search rules
