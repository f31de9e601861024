use Rattle.std.proofs.Common.{◌∙◌, not, ◌&&◌, nat_lt, [], List, refl}
use Rattle.std.specs.FinSet as set
use Rattle.std.specs.List.{enumerate_from}
use Rattle.cudf_index.specs.Satisfaction.{Placed}
use Rattle.cudf_referee.specs.Criteria.{criteria, is_removed, is_new, is_changed, is_not_up_to_date}
use Rattle.cudf_referee.specs.Proposals.{Proposal, proposal}
use Rattle.cudf_referee.proofs.StandingLemmas.{names_counted, outdated}
use Rattle.cudf_referee.proofs.counting.count_changes.Goals as goal

pub returns : goal.returns
unfolding criteria
returns c =
    let was = set.contains c.args.before.now in
    let is = set.contains c.args.proposed.now in
    let s : Proposal = proposal c.args.problem.now was is [] in
    let xs : List Placed = enumerate_from 1 c.args.problem.now.packages in
    let removed = names_counted was is xs _ c.count_removed.result (λ s. s.was_installed && not s.is_installed) (is_removed s)
    (c.deref.ensures.value ∙ c.in_ok-standings.ensures) (λ f. refl) c.count_removed.ensures c.count_removed.type_inv in
    let fresh = names_counted was is xs _ c.count_new.result (λ s. s.is_installed && not s.was_installed) (is_new s)
    (c.deref-2.ensures.value ∙ c.in_ok-standings.ensures) (λ f. refl) c.count_new.ensures c.count_new.type_inv in
    let changed = names_counted was is xs _ c.count_changed.result (λ s. s.is_changed) (is_changed s)
    (c.deref-3.ensures.value ∙ c.in_ok-standings.ensures) (λ f. refl) c.count_changed.ensures c.count_changed.type_inv in
    let outdated_names = names_counted was is xs _ c.count_not_up_to_date.result (λ s. s.is_installed && nat_lt s.greatest_installed s.greatest) (is_not_up_to_date s)
    (c.deref-4.ensures.value ∙ c.in_ok-standings.ensures) (outdated is xs) c.count_not_up_to_date.ensures c.count_not_up_to_date.type_inv in
    λ i. record { removed = removed i; new = fresh i; changed = changed i; notuptodate = outdated_names i; unsat_recommends = 0; touched = c.count_touched.ensures i }
