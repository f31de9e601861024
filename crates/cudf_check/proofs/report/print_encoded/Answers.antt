use Rattle.cudf_text.specs.Stanzas.{plain_text}
use Rattle.cudf_problem.specs.Universe.{plain_problem}
use Rattle.cudf_check.specs.Report.{cnf_answer}
use Rattle.cudf_check.proofs.report.print_encoded.Goals as goal

pub returns : goal.returns
returns g c = c.print_unsound.ensures (cnf_answer (plain_problem (plain_text c.args.bytes.now)))
