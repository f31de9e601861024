use Rattle.std.proofs.Common.{◌+◌, arith}
use Rattle.std.proofs.lemmas.List.{take_rest}
use Rattle.cudf_lrat.proofs.AssignmentLemmas.{status-first}
use Rattle.cudf_lrat.specs.Working.Assignments.{assigned_by, no_literal}
use Rattle.cudf_lrat.proofs.assignment.status_of.Goals as goal

pub returns-then-is_alone-clause-status : goal.returns-then-is_alone-clause-status
returns-then-is_alone-clause-status c =
    status-first (assigned_by c.args.assignment.now c.args.step) c.args.clause.now c.false_front-first.result no_literal c.false_front-first.ensures.value (omega arith) _ (take_rest c.args.clause.now (c.false_front-first.result + 1)) c.if-is_alone.ensures

pub returns-else-is_alone-clause-status : goal.returns-else-is_alone-clause-status
returns-else-is_alone-clause-status c =
    status-first (assigned_by c.args.assignment.now c.args.step) c.args.clause.now c.false_front-first.result no_literal c.false_front-first.ensures.value (omega arith) _ (take_rest c.args.clause.now (c.false_front-first.result + 1)) c.if-is_alone.ensures
