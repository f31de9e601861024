-- Where a bound is looked for in an ascending list of numbers (own).
use Rattle.std.specs.Prelude.{ℕ, ◌<◌, ◌≤◌, List, length, slice_index_or}

-- what is before the place, which is at most this high, is less than the number, and nothing from there on is
pub record StandsUnder (xs : List ℕ) (number high place : ℕ) : Type 0 where
  pub within : place ≤ high
  pub below : (k : ℕ) → k < place → slice_index_or xs k 0 < number
  pub above : (k : ℕ) → place ≤ k → k < length xs → number ≤ slice_index_or xs k 0
