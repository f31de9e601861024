-- Counting the packages that one of the two statuses has and the other hasn't.
use Rattle.std.proofs.Common.{◌≡◌, ℕ, ◌+◌, ◌-◌, ◌^◌, ◌<◌, Bool, true, false, [], length, take, get_or, min, ap, sym, ◌∙◌, arith}
use Rattle.std.specs.List.{count_by}
use Rattle.std.proofs.lemmas.List.Sums.{count_by_more_yes, count_by_more_no}
use Rattle.std.proofs.lemmas.List.FromFn.{get_or-enumerate_from, length-enumerate_from}
use Rattle.cudf_problem.specs.Universe.{PlainProblem}
use Rattle.cudf_index.specs.Satisfaction.{Placed}
use Rattle.cudf_referee.specs.Criteria.{is_touched, at_most_max, universe}
use Rattle.cudf_referee.specs.Proposals.{Proposal, proposal}
use Rattle.cudf_referee.specs.Working.Standings.{differ}
use Rattle.cudf_referee.proofs.GroundLemmas.{held-at}

module _ (problem : PlainProblem) (was is : ℕ → Bool) (i : ℕ) (d : Placed) (below : i < length problem.packages) where
  abbrev pub s : Proposal
  s = proposal problem was is []

  touched_at : is_touched s (get_or (universe s) i d) ≡ differ (was (i + 1)) (is (i + 1))
  touched_at = ap (is_touched s) (get_or-enumerate_from 1 problem.packages i d below)
      ∙ (λ k. is_touched s (number k, get_or problem.packages i d.1))
      ∙ (λ k. differ (held-at was problem.packages i below k) (held-at is problem.packages i below k))
    where
      number : 1 + i ≡ i + 1
      number = omega arith

  inside : i < length (universe s)
  inside = omega (arith, length-enumerate_from 1 problem.packages, below)

  -- the package at this place is one of them
  pub touched_yes : (before now : ℕ) → differ (was (i + 1)) (is (i + 1)) ≡ true → before ≡ at_most_max (count_by (is_touched s) (take i (universe s)))
      → now ≡ min (before + 1) (2 ^ 64 - 1) → now ≡ at_most_max (count_by (is_touched s) (take (i + 1) (universe s)))
  touched_yes before now e so_far added =
      let more = count_by_more_yes (is_touched s) (universe s) i d inside (touched_at ∙ e) in
      omega (arith, more, so_far, added)

  -- it is none
  pub touched_no : (before : ℕ) → differ (was (i + 1)) (is (i + 1)) ≡ false → before ≡ at_most_max (count_by (is_touched s) (take i (universe s)))
      → before ≡ at_most_max (count_by (is_touched s) (take (i + 1) (universe s)))
  touched_no before e so_far = so_far ∙ ap at_most_max (sym (count_by_more_no (is_touched s) (universe s) i d inside (touched_at ∙ e)))
