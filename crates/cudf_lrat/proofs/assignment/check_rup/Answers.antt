use Rattle.std.proofs.Common.{◌<◌, ap, ◌∙◌, fold, arith}
use Rattle.cudf_lrat.proofs.AssignmentLemmas.{known_fresh}
use Rattle.cudf_lrat.specs.Steps.{PartialAssignment, assign, negated, propagate}
use Rattle.cudf_lrat.specs.Working.Indices.{indexed}
use Rattle.cudf_lrat.specs.Working.Assignments.{unassigned}
use Rattle.cudf_lrat.proofs.assignment.check_rup.Goals as goal

pub returns-clause-propagated : goal.returns-clause-propagated
returns-clause-propagated c =
    let first = c.requires.fresh 0 unassigned (omega arith) in
    let some : 0 < c.args.step = omega arith in
    c.propagate.ensures.propagated
    ∙ ap (λ (known : PartialAssignment). propagate (indexed c.args.cnf.now c.args.steps.now) known c.args.indices.now)
    (c.deny.ensures.known ∙ ap (λ (known : PartialAssignment). fold (λ known literal. assign known (negated literal)) known c.args.clause.now) (known_fresh c.args.assignment.now c.args.step c.requires.fresh some))
