-- The unknown stanzas with numbers above one, found by halves.
use Rattle.std.proofs.Common.{◌≡◌, ℕ, zero, suc, ◌+◌, ◌-◌, ◌<◌, ◌≤◌, ◌/◌, true, nat_lt, List, [], ◌∷◌, length, get_or, map, drop, cond, refl, ap, arith}
use Rattle.std.proofs.lemmas.Bool.{ltb-true, lt-ltb, le-ltb}
use Rattle.cudf_problem.specs.declared.solution.InstalledPair.{InstalledPair}
use Rattle.cudf_problem.specs.Statuses.{PlainUnknown, ascend_above}
use Rattle.cudf_problem.specs.Promises.Views.{unknown_view}
use Rattle.cudf_index.specs.Promises.Prices.{digits_within, digits}
use Rattle.cudf_index.proofs.PriceLemmas.{digits_within-fuel, digits_within-mono, digits-halved}
use Rattle.cudf_referee.specs.Working.Places.{stanza_numbers}
use Rattle.cudf_referee.specs.Working.Searches.{unknown_left}
use Rattle.cudf_referee.proofs.ListLemmas.{and_left, and_right}

-- ---- digits

-- half of a number has at most a digit less
digits-doubled : (m n : ℕ) → n ≤ m + m + 1 → digits n ≤ digits m + 1
unfolding digits digits_within
digits-doubled m zero h = omega arith
digits-doubled m (suc k) h = omega (arith, digits_within-fuel k m (suc k / 2) (omega arith) (omega arith), digits_within-mono m (suc k / 2) m (omega arith))

pub digits-positive : (n : ℕ) → 0 < n → 0 < digits n
unfolding digits digits_within
digits-positive zero h = absurd (omega arith)
digits-positive (suc k) h = omega arith

-- ---- numbers that ascend

abbrev Ascending : List ℕ → Type 0
Ascending xs = (j k : ℕ) → j ≤ k → k < length xs → get_or xs j 0 ≤ get_or xs k 0

above_all : (n : ℕ) (unknown : List PlainUnknown) → ascend_above n unknown ≡ true → (k : ℕ) → k < length (stanza_numbers unknown) → n < get_or (stanza_numbers unknown) k 0
above_all n [] h k inside = absurd (omega arith)
above_all n (u ∷ us) h zero inside = ltb-true n u.stanza (and_left (nat_lt n u.stanza) (ascend_above u.stanza us) h)
above_all n (u ∷ us) h (suc k) inside =
    omega (arith, ltb-true n u.stanza (and_left (nat_lt n u.stanza) (ascend_above u.stanza us) h), above_all u.stanza us (and_right (nat_lt n u.stanza) (ascend_above u.stanza us) h) k (omega arith))

ascending : (n : ℕ) (unknown : List PlainUnknown) → ascend_above n unknown ≡ true → Ascending (stanza_numbers unknown)
ascending n [] h j k below inside = absurd (omega arith)
ascending n (u ∷ us) h zero zero below inside = omega arith
ascending n (u ∷ us) h zero (suc k) below inside = omega (arith, above_all u.stanza us (and_right (nat_lt n u.stanza) (ascend_above u.stanza us) h) k (omega arith))
ascending n (u ∷ us) h (suc j) zero below inside = absurd (omega arith)
ascending n (u ∷ us) h (suc j) (suc k) below inside = ascending u.stanza us (and_right (nat_lt n u.stanza) (ascend_above u.stanza us) h) j k (omega arith) (omega arith)

-- ---- the search

pub number_of : (unknown : List InstalledPair) (place : ℕ) (u : InstalledPair) (d : ℕ) → place < length unknown → (get_or unknown place u).stanza ≡ get_or (stanza_numbers (map unknown_view unknown)) place d
number_of [] place u d h = absurd (omega arith)
number_of (x ∷ unknown) zero u d h = refl
number_of (x ∷ unknown) (suc place) u d h = number_of unknown place u d (omega arith)

-- how far it has come, and what it took
pub record Halved (numbers : List ℕ) (number low high from to : ℕ) : Type 0 where
  pub ordered : Ascending numbers
  pub order : low ≤ high
  pub within : high ≤ length numbers
  pub below : (k : ℕ) → k < low → get_or numbers k 0 ≤ number
  pub above : (k : ℕ) → high ≤ k → k < length numbers → number < get_or numbers k 0
  pub price : to + digits (high - low) ≤ from + digits (length numbers)
  pub grows : from + digits (length numbers + 1) ≤ to + digits (high - low + 1)

pub halved_start : (unknown : List PlainUnknown) (number len from : ℕ) → ascend_above 0 unknown ≡ true → len ≡ length (stanza_numbers unknown)
    → Halved (stanza_numbers unknown) number 0 len from from
halved_start unknown number len from h whole =
    let all : len - 0 ≡ length (stanza_numbers unknown) = omega arith in
    let same : digits (len - 0) ≡ digits (length (stanza_numbers unknown)) = ap digits all in
    record {
      ordered = ascending 0 unknown h;
      order = omega arith;
      within = omega arith;
      below = λ k l. absurd (omega arith);
      above = λ k l m. absurd (omega arith);
      price = omega (arith, same);
      grows = omega (arith, ap (λ n. digits (n + 1)) all);
    }

module _ (numbers : List ℕ) (number low high from to middle n next : ℕ) (s : Halved numbers number low high from to) where
  pub halved_right : low < high → middle ≡ low + (high - low) / 2 → next ≡ to + 1 → ((d : ℕ) → n ≡ get_or numbers middle d) → n ≤ number
      → Halved numbers number (middle + 1) high from next
  halved_right open_yet mid one is less =
      let fewer = digits-halved (high - (middle + 1)) (high - low) (omega arith) (omega arith) in
      record {
        ordered = s.ordered;
        order = omega arith;
        within = s.within;
        below = λ k h. omega (arith, s.ordered k middle (omega arith) (omega (arith, s.within)), is 0);
        above = s.above;
        price = omega (arith, s.price, fewer);
        grows = omega (arith, s.grows, digits-doubled (high - (middle + 1) + 1) (high - low + 1) (omega arith));
      }

  pub halved_left : low < high → middle ≡ low + (high - low) / 2 → next ≡ to + 1 → ((d : ℕ) → n ≡ get_or numbers middle d) → number < n
      → Halved numbers number low middle from next
  halved_left open_yet mid one is more =
      let fewer = digits-halved (middle - low) (high - low) (omega arith) (omega arith) in
      record {
        ordered = s.ordered;
        order = omega arith;
        within = omega (arith, s.within);
        below = s.below;
        above = λ k h l. omega (arith, s.ordered middle k h l, is 0);
        price = omega (arith, s.price, fewer);
        grows = omega (arith, s.grows, digits-doubled (middle - low + 1) (high - low + 1) (omega arith));
      }

left_from : (number low : ℕ) (unknown : List PlainUnknown) → low ≤ length (stanza_numbers unknown) → ((k : ℕ) → k < low → get_or (stanza_numbers unknown) k 0 ≤ number)
    → ((k : ℕ) → low ≤ k → k < length (stanza_numbers unknown) → number < get_or (stanza_numbers unknown) k 0) → unknown_left number unknown ≡ drop low unknown
left_from number zero [] within below above = refl
left_from number (suc low) [] within below above = refl
left_from number zero (u ∷ us) within below above =
    let here = lt-ltb number u.stanza (above 0 (omega arith) (omega arith)) in
    let more = left_from number zero us (omega arith) (λ k h. absurd (omega arith)) (λ k h l. above (suc k) (omega arith) (omega arith)) in
    (λ i. cond (here i) (u ∷ more i) (more i))
left_from number (suc low) (u ∷ us) within below above =
    let here = le-ltb number u.stanza (below 0 (omega arith)) in
    let more = left_from number low us (omega arith) (λ k h. below (suc k) (omega arith)) (λ k h l. above (suc k) (omega arith) (omega arith)) in
    (λ i. cond (here i) (u ∷ more i) (more i))

pub halved_end : (unknown : List PlainUnknown) (number low high from to : ℕ) → Halved (stanza_numbers unknown) number low high from to → high ≤ low
    → unknown_left number unknown ≡ drop low unknown
halved_end unknown number low high from to s closed =
    left_from number low unknown (omega (arith, s.order, s.within)) s.below (λ k h l. s.above k (omega (arith, s.order)) l)

pub halved_least : (unknown : List PlainUnknown) (number len low high from to : ℕ) → Halved (stanza_numbers unknown) number low high from to → high ≤ low
    → len ≡ length (stanza_numbers unknown) → from + digits (len + 1) ≤ to + 1
unfolding digits digits_within
halved_least unknown number len low high from to s closed whole =
    let none : high - low + 1 ≡ 1 = omega arith in
    omega (arith, s.grows, ap digits none, ap (λ n. digits (n + 1)) whole)
