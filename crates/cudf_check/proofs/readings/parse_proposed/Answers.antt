use Rattle.std.proofs.Common.{◌≡◌, true, false, sym, ap, ◌∙◌}
use Rattle.cudf_text.specs.Joined.{is_fail}
use Rattle.cudf_text.specs.Stanzas.{plain_text}
use Rattle.cudf_document.specs.Faults.{least}
use Rattle.cudf_problem.specs.Promises.Statuses.{installed_stanzas}
use Rattle.cudf_document.specs.SolutionFaults.{solution_faults}
use Rattle.cudf_check.specs.Report.{solution_fault}
use Rattle.cudf_check.proofs.ReadingLemmas.{first_of, solution_read, solution_fails, solution_unread}
use Rattle.cudf_check.proofs.readings.parse_proposed.Goals as goal

pub returns-then-is_fail-clause-unjudged : goal.returns-then-is_fail-clause-unjudged
returns-then-is_fail-clause-unjudged c =
    let bytes = c.args.bytes.now in
    let fails : is_fail bytes ≡ true = ap is_fail (sym c.in-Ok.ensures.utf8.1) ∙ sym c.is_fail.ensures ∙ c.if-is_fail.true in
    (solution_fails c.args.setting.mode c.args.problem.now.extra_names bytes c.in-Ok.ensures.utf8.0 fails, fails)

pub returns-in-Ok-proposed_of-clause-sound : goal.returns-in-Ok-proposed_of-clause-sound
returns-in-Ok-proposed_of-clause-sound c =
    let bytes = c.args.bytes.now in
    let goes_on : is_fail bytes ≡ false = ap is_fail (sym c.in-Ok.ensures.utf8.1) ∙ sym c.is_fail.ensures ∙ c.if-is_fail.false in
    sym (solution_read c.args.setting.mode c.args.problem.now.extra_names bytes c.new.result c.in-Ok.ensures.utf8.0 goes_on (c.new.ensures ∙ ap plain_text c.in-Ok.ensures.utf8.1))
    ∙ ap least c.in-Ok-proposed_of.ensures.sound

pub returns-in-Ok-proposed_of-clause-proposed : goal.returns-in-Ok-proposed_of-clause-proposed
returns-in-Ok-proposed_of-clause-proposed c =
    c.in-Ok-proposed_of.ensures.installed
    ∙ ap (λ text. installed_stanzas text.stanzas) (c.new.ensures ∙ ap plain_text c.in-Ok.ensures.utf8.1)

pub returns-in-Err-proposed_of-clause-unjudged : goal.returns-in-Err-proposed_of-clause-unjudged
returns-in-Err-proposed_of-clause-unjudged c =
    let bytes = c.args.bytes.now in
    let text = c.new.result in
    let goes_on : is_fail bytes ≡ false = ap is_fail (sym c.in-Ok.ensures.utf8.1) ∙ sym c.is_fail.ensures ∙ c.if-is_fail.false in
    first_of (solution_faults text c.args.setting.mode c.args.problem.now.extra_names) (solution_fault c.args.setting.mode c.args.problem.now.extra_names bytes)
    (solution_read c.args.setting.mode c.args.problem.now.extra_names bytes text c.in-Ok.ensures.utf8.0 goes_on (c.new.ensures ∙ ap plain_text c.in-Ok.ensures.utf8.1))
    c.in-Err-proposed_of.error c.in-Err-proposed_of.ensures.fault

pub returns-in-Err-clause-unjudged : goal.returns-in-Err-clause-unjudged
returns-in-Err-clause-unjudged c = solution_unread c.args.setting.mode c.args.problem.now.extra_names c.args.bytes.now c.in-Err.fault c.in-Err.ensures.fault.0 c.in-Err.ensures.fault.1
