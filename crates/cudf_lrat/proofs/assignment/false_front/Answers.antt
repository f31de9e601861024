use Rattle.std.proofs.Common.{sym, arith, length, le_refl}
use Rattle.std.proofs.lemmas.List.Sums.{prefix_len_is}
use Rattle.cudf_lrat.specs.Steps.{is_false}
use Rattle.cudf_lrat.specs.Working.Assignments.{assigned_by, no_literal}
use Rattle.cudf_lrat.proofs.assignment.false_front.Goals as goal

pub returns-then-not-is_false-clause-value : goal.returns-then-not-is_false-clause-value
returns-then-not-is_false-clause-value c =
    sym (prefix_len_is (is_false (assigned_by c.args.assignment.now c.args.step)) c.args.clause.now c.loop-index.index no_literal (omega arith) c.loop-index.invariant (λ _. sym c.if-not-is_false.ensures))

pub returns-clause-value : goal.returns-clause-value
returns-clause-value c =
    sym (prefix_len_is (is_false (assigned_by c.args.assignment.now c.args.step)) c.args.clause.now (length c.args.clause.now) no_literal (le_refl _) (λ k lt. c.loop-index.invariant k (omega arith)) (λ lt. absurd (omega arith)))
