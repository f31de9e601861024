use Rattle.std.proofs.Common.{sym, ◌∙◌}
use Rattle.cudf_check.proofs.ReadingLemmas.{problem_read, problem_unread}
use Rattle.cudf_check.proofs.readings.check_problem.Goals as goal

pub returns-in-Err-clause-fault : goal.returns-in-Err-clause-fault
returns-in-Err-clause-fault c = problem_unread c.args.setting.mode c.args.bytes.now c.in-Err.fault c.in-Err.ensures.fault.0 c.in-Err.ensures.fault.1

pub returns-in-None-clause-sound : goal.returns-in-None-clause-sound
returns-in-None-clause-sound c =
    let read = problem_read c.args.setting.mode c.args.bytes.now c.in-Ok.stanzas c.in-Ok.ensures.utf8.0 c.in-Ok.ensures.utf8.1 in
    sym read ∙ sym c.in_ok-first_fault.ensures ∙ c.in-None.is

pub returns-clause-fault : goal.returns-clause-fault
returns-clause-fault c =
    let read = problem_read c.args.setting.mode c.args.bytes.now c.in-Ok.stanzas c.in-Ok.ensures.utf8.0 c.in-Ok.ensures.utf8.1 in
    sym read ∙ sym c.in_ok-first_fault.ensures ∙ c.in-Some.is
