use Rattle.std.proofs.Common.{ap, sym, ◌∙◌}
use Rattle.cudf_document.specs.Faults.{least}
use Rattle.cudf_document.specs.ProblemFaults.{problem_faults}
use Rattle.cudf_problem.specs.Universe.{plain_problem}
use Rattle.cudf_check.specs.Report.{problem_fault}
use Rattle.cudf_check.proofs.ReadingLemmas.{ok_map, err_map, first_of, problem_read, problem_unread}
use Rattle.cudf_check.proofs.readings.parse_problem.Goals as goal

pub returns-in-Ok-clause-sound : goal.returns-in-Ok-clause-sound
returns-in-Ok-clause-sound c =
    let read = problem_read c.args.setting.mode c.args.bytes.now c.in-Ok.stanzas c.in-Ok.ensures.utf8.0 c.in-Ok.ensures.utf8.1 in
    ok_map c.problem_of.result (λ p none. sym read ∙ ap least none) c.problem_of.ensures.sound

pub returns-in-Ok-clause-problem : goal.returns-in-Ok-clause-problem
returns-in-Ok-clause-problem c = ok_map c.problem_of.result (λ p is. is ∙ ap plain_problem c.in-Ok.ensures.utf8.1) c.problem_of.ensures.problem

pub returns-in-Ok-clause-fault : goal.returns-in-Ok-clause-fault
returns-in-Ok-clause-fault c =
    let text = c.in-Ok.stanzas in
    let read = problem_read c.args.setting.mode c.args.bytes.now text c.in-Ok.ensures.utf8.0 c.in-Ok.ensures.utf8.1 in
    err_map c.problem_of.result (first_of (problem_faults text c.args.setting.mode) (problem_fault c.args.setting.mode c.args.bytes.now) read) c.problem_of.ensures.fault

pub returns-in-Err-clause-fault : goal.returns-in-Err-clause-fault
returns-in-Err-clause-fault c = problem_unread c.args.setting.mode c.args.bytes.now c.in-Err.fault c.in-Err.ensures.fault.0 c.in-Err.ensures.fault.1
