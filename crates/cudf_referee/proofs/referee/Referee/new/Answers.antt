use Rattle.std.proofs.Common.{◌≡◌, ℕ, Bool, List, [], length, map, arith, ap, sym, ◌∙◌}
use Rattle.std.proofs.lemmas.List.{length-map}
use Rattle.std.specs.FinSet as set
use Rattle.cudf_job.specs.declared.criteria.Criteria.{Criteria}
use Rattle.cudf_problem.specs.Statuses.{is_initial}
use Rattle.cudf_problem.specs.Promises.Views.{unknown_view}
use Rattle.cudf_referee.specs.Criteria.{criteria}
use Rattle.cudf_problem.specs.Documents.{is_empty}
use Rattle.cudf_referee.specs.Proposals.{proposal}
use Rattle.cudf_referee.specs.Working.Walkers.{put_forward}
use Rattle.cudf_referee.specs.Solutions.{is_solution}
use Rattle.cudf_referee.specs.Violations.{listing}
use Rattle.cudf_referee.specs.Promises.Walks.{Walking, left}
use Rattle.cudf_referee.specs.Working.Named.{has_kept_name}
use Rattle.cudf_referee.specs.Working.Standings.{without_recommends}
use Rattle.cudf_referee.proofs.ListingLemmas.{criteria_known}
use Rattle.cudf_referee.proofs.SolutionLemmas.{solution_is_empty}
use Rattle.cudf_referee.proofs.referee.Referee.new.Goals as goal

-- the counts with recommends in place of 0 are all of them
with_recommends : (changes all : Criteria) (n : ℕ) → changes ≡ without_recommends all → n ≡ all.unsat_recommends → record changes { unsat_recommends = n } ≡ all
with_recommends changes all n same is = λ i. record (same i) { unsat_recommends = is i }

pub invariant_of-result : goal.invariant_of-result
unfolding criteria
invariant_of-result c =
    let problem = c.args.problem.now in
    let unknown = map unknown_view c.args.solution.now.unknown.items in
    let was = set.contains c.in_ok-was_installed.was_installed in
    let is = set.contains c.args.solution.now.status in
    let was_is : was ≡ is_initial problem = λ i place. c.in_ok-was_installed.ensures.places place i in
    let now = c.in_ok-now.now in
    let named = c.in_ok-named.named in
    let same = ap (λ now. put_forward problem now unknown) c.in_ok-now.ensures in (
      record {
        numbers = c.in_ok-before.ensures;
        is = c.in_ok-now.ensures;
        flags = c.in_ok-named.ensures;
        ascends = c.requires;
      },
      c.has_none-verdict.ensures ∙ ap (λ (w : Walking). is_empty (left w)) c.new.ensures
          ∙ ap (λ s. is_empty (listing s)) same ∙ sym (solution_is_empty problem (is_initial problem) is unknown) ∙ ap is_solution (sym same),
      with_recommends c.in_ok-changes.changes (criteria (proposal problem was is [])) c.count_unsatisfied.result c.in_ok-changes.ensures (c.count_unsatisfied.ensures was)
          ∙ (λ i. criteria (proposal problem (was_is i) is []))
          ∙ ap (λ now. criteria (put_forward problem now [])) (sym c.in_ok-now.ensures)
          ∙ criteria_known problem now unknown,
      c.keys_can_be_written.ensures now (omega (arith, named.ok.0, named.ok.1, named.small, ap (λ (flags : List Bool). length flags) c.in_ok-named.ensures, length-map problem.packages (has_kept_name now))),
    )

pub returns : goal.returns
returns c = ap (λ now. put_forward c.args.problem.now now (map unknown_view c.args.solution.now.unknown.items)) c.in_ok-now.ensures
