use Rattle.std.proofs.Common.{◌≡◌, map, ap, sym, ◌∙◌}
use Rattle.std.specs.FinSet as set
use Rattle.cudf_problem.specs.Statuses.{is_initial}
use Rattle.cudf_problem.specs.Promises.Views.{unknown_view}
use Rattle.cudf_problem.specs.Documents.{is_empty}
use Rattle.cudf_referee.specs.Proposals.{proposal}
use Rattle.cudf_referee.specs.Working.Walkers.{put_forward}
use Rattle.cudf_referee.specs.Solutions.{is_solution}
use Rattle.cudf_referee.specs.Violations.{listing}
use Rattle.cudf_referee.proofs.SolutionLemmas.{solution_is_empty}
use Rattle.cudf_referee.proofs.referee.Referee.is_solution.Goals as goal

pub returns-clause-empty : goal.returns-clause-empty
returns-clause-empty c =
    let r = c.self.inside in
    let problem = r.problem.now in
    let unknown = map unknown_view r.solution.now.unknown.items in
    let is = set.contains r.solution.now.status in
    let same : put_forward problem r.now unknown ≡ proposal problem (is_initial problem) is unknown = ap (λ now. put_forward problem now unknown) c.self.invariant.0.is in
    c.self.invariant.1 ∙ ap is_solution same ∙ solution_is_empty problem (is_initial problem) is unknown
    ∙ ap (λ s. is_empty (listing s)) (sym same ∙ c.self.view_is)

pub returns-clause-solution : goal.returns-clause-solution
returns-clause-solution c = c.self.invariant.1 ∙ ap is_solution c.self.view_is
