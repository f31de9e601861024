use Rattle.std.proofs.Common.{arith, sym, ◌∙◌, subst}
use Rattle.std.specs.Iterator.{YieldsFirstBy}
use Rattle.std.proofs.lemmas.Option.{slice_get_within}
use Rattle.cudf_problem.specs.Promises.Views.{package_view}
use Rattle.cudf_problem.specs.Universe.{PlainRequest}
use Rattle.cudf_referee.specs.Promises.ProblemInstances.{instances_left}
use Rattle.cudf_referee.specs.Promises.Views.{instance_view}
use Rattle.cudf_referee.specs.Working.PackageInstancesLeft.{placed_view, left_view}
use Rattle.cudf_referee.specs.Working.RequestInstancesLeft.{request_left_view}
use Rattle.cudf_referee.proofs.ProblemLemmas.{from-found, from-passed, from-request, progress}
use Rattle.cudf_referee.proofs.SearchLemmas.{nothing-next}
use Rattle.cudf_referee.proofs.instance.ProblemInstancesIterator.next.Goals as goal

pub returns-in-Some-next-clause-steps : goal.returns-in-Some-next-clause-steps
unfolding instances_left
returns-in-Some-next-clause-steps c =
    let now = c.loop-candidate.self in
    sym c.loop-candidate.invariant
    ∙ from-found now.problem.now now.request now.begun now.passed c.in-Some.candidate c.in-Some.ensures c.left-left.result c.next.new.left (instance_view c.in-Some-next.instance) c.left-left.ensures c.in-Some-next.ensures

pub returns-in-Some-next-clause-goes : goal.returns-in-Some-next-clause-goes
returns-in-Some-next-clause-goes c = progress (λ s. Unit {0}) instances_left (λ s. tt) _ _ _ (returns-in-Some-next-clause-steps c)

pub loop-candidate-smaller : goal.loop-candidate-smaller
loop-candidate-smaller c =
    let now = c.loop-candidate.self in
    let at = c.in-Some.ensures in
    omega (arith, at.place, slice_get_within now.problem.now.packages now.passed (package_view c.in-Some.candidate.package.now) at.is)

pub loop-candidate-preserved : goal.loop-candidate-preserved
loop-candidate-preserved c =
    let now = c.loop-candidate.self in
    sym (from-passed now.problem.now now.request now.begun now.passed c.in-Some.candidate c.in-Some.ensures c.left-left.result c.left-left.ensures
    (nothing-next instance_view (left_view (placed_view c.in-Some.candidate)) c.left-left.result c.next.new.left _ c.in_default-next.is c.next.ensures))
    ∙ c.loop-candidate.invariant

pub returns-clause-steps : goal.returns-clause-steps
unfolding instances_left
returns-clause-steps c =
    let now = c.loop-candidate.self in
    from-request _ now.problem.now now.request c.next-2.new.self now.begun now.passed c.next-2.result c.loop-candidate.invariant c.in_default.ensures
    (subst (λ (r : PlainRequest). YieldsFirstBy instance_view (request_left_view r) now.request c.next-2.result c.next-2.new.self) c.request.ensures c.next-2.ensures)

pub returns-clause-goes : goal.returns-clause-goes
returns-clause-goes c = progress (λ s. Unit {0}) instances_left (λ s. tt) _ _ _ (returns-clause-steps c)
