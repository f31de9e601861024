use Rattle.std.proofs.Common.{sym}
use Rattle.cudf_lrat.proofs.AssignmentLemmas.{other_found}
use Rattle.cudf_lrat.specs.Steps.{is_false, is_same}
use Rattle.cudf_lrat.specs.Working.Assignments.{assigned_by, no_literal}
use Rattle.cudf_lrat.proofs.assignment.is_alone.Goals as goal

pub returns-then-is_other : goal.returns-then-is_other
returns-then-is_other c =
    sym (other_found (is_false (assigned_by c.args.assignment.now c.args.step)) (is_same c.args.own) c.args.others.now c.loop-literal.literal-index no_literal c.loop-literal-test.true (sym c.if-is_other.ensures))
