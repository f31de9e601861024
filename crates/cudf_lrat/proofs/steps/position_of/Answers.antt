use Rattle.std.proofs.Common.{◌≡◌, ◌≢◌, ℕ, ◌<◌, ◌≤◌, List, length, get_or, Ok, Err, Result, inl, inr, nat_cmp, arith}
use Rattle.std.specs.Prelude.{IfNone}
use Rattle.std.specs.List.Sorted.{IsBinarySearchResult}
use Rattle.std.specs.Result.{MatchResult, result_ok}
use Rattle.std.proofs.lemmas.Bool.{cases_eq, cases_lt}
use Rattle.std.proofs.lemmas.List.Sorted.{searched}
use Rattle.cudf_lrat.proofs.steps.position_of.Goals as goal

-- what a binary search that finds nothing says
not-there : (xs : List ℕ) (x : ℕ) (r : Result ℕ ℕ) → MatchResult r (λ i. (i < length xs) × (get_or xs i 0 ≡ x)) (λ i. (i ≤ length xs) × ((k : ℕ) → k < i → get_or xs k 0 < x) × ((k : ℕ) → i ≤ k → k < length xs → x < get_or xs k 0))
    → IfNone (result_ok r) ((k : ℕ) → k < length xs → get_or xs k 0 ≢ x)
not-there xs x (Ok i) h = tt
not-there xs x (Err i) h = λ k lt e.
    elim (cases_lt k i) [
      | inl before ↦ let below = h.1 k before in omega arith
      | inr after ↦ let above = h.2 k after lt in omega arith
    ]

search-none : (xs : List ℕ) (x : ℕ) (r : Result ℕ ℕ) → ((j k : ℕ) → j < k → k < length xs → get_or xs j 0 < get_or xs k 0) → IsBinarySearchResult (λ y. nat_cmp y x) xs r → IfNone (result_ok r) ((k : ℕ) → k < length xs → get_or xs k 0 ≢ x)
search-none xs x r rising found =
    not-there xs x r (searched xs x r found (λ i j le lt. elim (cases_eq i j) [
      | inl same ↦ let e : get_or xs i 0 ≡ get_or xs j 0 = λ p. get_or xs (same p) 0 in omega arith
      | inr other ↦ let below = rising i j (omega arith) lt in omega arith
    ]))

pub returns-in-None-clause-none : goal.returns-in-None-clause-none
returns-in-None-clause-none c = rw c.ok.ensures.value (search-none c.args.numbers.now c.args.number c.binary_search.result c.requires c.binary_search.ensures.position)
