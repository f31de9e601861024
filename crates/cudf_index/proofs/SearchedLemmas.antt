-- How far a binary search has come, and what it took.
use Rattle.std.proofs.Common.{◌≡◌, ℕ, ◌+◌, ◌-◌, ◌<◌, ◌≤◌, ◌/◌, List, length, get_or, ap, arith, nat_lt}
use Rattle.std.specs.List.{count_by}
use Rattle.std.specs.List.Sorted.{IsNonDecreasing}
use Rattle.std.proofs.lemmas.Bool.{lt-ltb, le-ltb}
use Rattle.std.proofs.lemmas.List.{get_or_default}
use Rattle.cudf_index.specs.Promises.Prices.{digits}
use Rattle.cudf_index.specs.Working.Ends.{StandsUnder}
use Rattle.cudf_index.proofs.CountLemmas.{count-point}
use Rattle.cudf_index.proofs.PriceLemmas.{digits-halved}

pub record Searched (xs : List ℕ) (bound end low high from to : ℕ) : Type 0 where
  pub ordered : IsNonDecreasing xs
  pub order : low ≤ high
  pub before : high ≤ end
  pub within : end ≤ length xs
  pub below : (k : ℕ) → k < low → get_or xs k 0 < bound
  pub above : (k : ℕ) → high ≤ k → k < length xs → bound ≤ get_or xs k 0
  pub price : to + digits (high - low) ≤ from + digits end
  pub grows : from ≤ to

module _ (xs : List ℕ) (bound end : ℕ) where
  pub searched_start : (from : ℕ) → IsNonDecreasing xs → end ≤ length xs → ((k : ℕ) → end ≤ k → k < length xs → bound ≤ get_or xs k 0) → Searched xs bound end 0 end from from
  searched_start from ordered inside behind =
      let whole : end - 0 ≡ end = omega arith in
      let same : digits (end - 0) ≡ digits end = ap digits whole in
      record {
        ordered = ordered;
        order = omega arith;
        before = omega arith;
        within = inside;
        below = λ k h. absurd (omega arith);
        above = behind;
        price = omega (arith, same);
        grows = omega arith;
      }

  pub searched_right : (low high from to next n middle : ℕ) → Searched xs bound end low high from to → low < high → middle ≡ low + (high - low) / 2 → next ≡ to + 1 → ((d : ℕ) → n ≡ get_or xs middle d) → n < bound → Searched xs bound end (middle + 1) high from next
  searched_right low high from to next n middle s open_yet mid one is less =
      let fewer = digits-halved (high - (middle + 1)) (high - low) (omega arith) (omega arith) in
      record {
        ordered = s.ordered;
        order = omega arith;
        before = s.before;
        within = s.within;
        below = λ k h. omega (arith, s.ordered k middle 0 (omega arith) (omega (arith, s.before, s.within)), is 0);
        above = s.above;
        price = omega (arith, s.price, fewer);
        grows = omega (arith, s.grows);
      }

  pub searched_left : (low high from to next n middle : ℕ) → Searched xs bound end low high from to → low < high → middle ≡ low + (high - low) / 2 → next ≡ to + 1 → ((d : ℕ) → n ≡ get_or xs middle d) → bound ≤ n → Searched xs bound end low middle from next
  searched_left low high from to next n middle s open_yet mid one is more =
      let fewer = digits-halved (middle - low) (high - low) (omega arith) (omega arith) in
      record {
        ordered = s.ordered;
        order = omega arith;
        before = omega (arith, s.before);
        within = s.within;
        below = s.below;
        above = λ k h l. omega (arith, s.ordered middle k 0 h l, is 0);
        price = omega (arith, s.price, fewer);
        grows = omega (arith, s.grows);
      }

  pub searched_end : (low high from to : ℕ) → Searched xs bound end low high from to → high ≤ low → low ≡ count_by (λ n. nat_lt n bound) xs
  searched_end low high from to s closed =
      count-point (λ n. nat_lt n bound) xs 0 low (omega (arith, s.order, s.before, s.within)) (
        (λ k d a b. lt-ltb (get_or xs k d) bound (omega (arith, s.below k b, get_or_default xs k d 0 (omega (arith, s.order, s.before, s.within))))),
        (λ k d a b. le-ltb (get_or xs k d) bound (omega (arith, s.above k (omega arith) b, get_or_default xs k d 0 b))),
      )

  pub searched_stands : (low high from to : ℕ) → Searched xs bound end low high from to → high ≤ low → StandsUnder xs bound end low
  searched_stands low high from to s closed = record {
    within = omega (arith, s.order, s.before);
    below = s.below;
    above = λ k h l. s.above k (omega arith) l;
  }
