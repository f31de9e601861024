use Rattle.cudf_check.specs.Report.{problem_fault}
use Rattle.cudf_check.proofs.report.print_unsound.Goals as goal

pub returns : goal.returns
returns g c = λ report. c.print_unread.ensures (problem_fault c.args.setting.mode c.args.bytes.now) report c.requires
