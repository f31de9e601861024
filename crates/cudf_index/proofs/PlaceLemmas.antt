-- Ascending places, known by which they are.
use Rattle.std.proofs.Common.{◌≡◌, ℕ, ◌+◌, ◌<◌, ◌≤◌, suc, Bool, true, false, cond, ◌||◌, ◌&&◌, ◌==◌, List, [], ◌∷◌, get_or, map, refl, sym, ap, ◌∙◌, arith, inl, inr, subst}
use Rattle.std.specs.Prelude.{filter}
use Rattle.std.specs.Cmp.{both_ways}
use Rattle.std.specs.List.{enumerate_from, dedup, Contains}
use Rattle.std.specs.List.Retain.{IsFiltered, DiffersFromLast}
use Rattle.std.specs.List.Sorted.{IsPermutation, IsStrictlyIncreasing, IsSorted}
use Rattle.std.specs.Ordering.{nat_cmp}
use Rattle.std.proofs.lemmas.List.Filters.{dedup_is}
use Rattle.std.proofs.lemmas.Map.Keys.{IsStrictlyIncreasing-dedup}
use Rattle.std.proofs.Common.{eqb}
use Rattle.std.proofs.lemmas.Bool.{eq-eqb, eqb-true, ne_eqb, cases_order, cases_eq, true≢false}
use Rattle.std.proofs.lemmas.List.{get_or_default}
use Rattle.std.proofs.lemmas.List.Folds.{list_any_at, Any-from_list_any}
use Rattle.std.proofs.lemmas.List.Kept.{Contains-dedup_nat, Contains-from_dedup}
use Rattle.std.proofs.lemmas.List.Sorted.{list_any-IsPermutation}
use Rattle.cudf_problem.specs.Universe.{PlainPackage}
use Rattle.cudf_index.specs.Satisfaction.{Placed, members}
use Rattle.cudf_index.specs.Promises.Places.{places_where}
use Rattle.cudf_index.specs.Working.Places.{has, passes_at}

pub has_where : (t : Placed → Bool) (p : ℕ) (status : List Placed) → has (places_where t status) p ≡ passes_at t p status
has_where t p [] = refl
has_where t p (q ∷ qs) = by (t q) ∙ ap (λ r. ((q.0 == p) && t q) || r) (has_where t p qs)
  where
    kept : (a r : Bool) → (a || r) ≡ ((a && true) || r)
    kept true r = refl
    kept false r = refl

    left_out : (a r : Bool) → r ≡ ((a && false) || r)
    left_out true r = refl
    left_out false r = refl

    by : (b : Bool) → has (map (λ (x : Placed). x.0) (cond b (q ∷ filter t qs) (filter t qs))) p ≡ (((q.0 == p) && b) || has (places_where t qs) p)
    by true = kept (q.0 == p) (has (places_where t qs) p)
    by false = left_out (q.0 == p) (has (places_where t qs) p)

-- ---- ascending lists

-- each is above the one before it, and the first above this one
abbrev pub Rises : ℕ → List ℕ → Type 0
Rises low [] = Unit {0}
Rises low (x ∷ xs) = (low < x) × Rises x xs

abbrev pub Rising : List ℕ → Type 0
Rising [] = Unit {0}
Rising (x ∷ xs) = Rises x xs

pub rising_rest : (x : ℕ) (xs : List ℕ) → Rises x xs → Rising xs
rising_rest x [] h = tt
rising_rest x (y ∷ ys) h = h.1

module _ (t : Placed → Bool) (holds : ℕ → Bool) where
  abbrev from : ℕ → List PlainPackage → List Placed
  from s ps = filter (λ (q : Placed). holds q.0) (enumerate_from s ps)

  where_rises : (low s : ℕ) (ps : List PlainPackage) → low < s → Rises low (places_where t (from s ps))
  where_rises low s [] h = tt
  where_rises low s (p ∷ ps) h = by (holds s) (where_rises s (s + 1) ps (omega arith)) (where_rises low (s + 1) ps (omega arith))
    where
      by : (held : Bool) → Rises s (places_where t (from (s + 1) ps)) → Rises low (places_where t (from (s + 1) ps))
          → Rises low (places_where t (cond held ((s, p) ∷ from (s + 1) ps) (from (s + 1) ps)))
      by false kept other = other
      by true kept other = passed (t (s, p)) refl kept other
        where
          passed : (b : Bool) → t (s, p) ≡ b → Rises s (places_where t (from (s + 1) ps)) → Rises low (places_where t (from (s + 1) ps))
              → Rises low (map (λ (x : Placed). x.0) (cond (t (s, p)) ((s, p) ∷ filter t (from (s + 1) ps)) (filter t (from (s + 1) ps))))
          passed true e kept other = subst (λ c. Rises low (map (λ (x : Placed). x.0) (cond c ((s, p) ∷ filter t (from (s + 1) ps)) (filter t (from (s + 1) ps))))) (sym e) (h, kept)
          passed false e kept other = subst (λ c. Rises low (map (λ (x : Placed). x.0) (cond c ((s, p) ∷ filter t (from (s + 1) ps)) (filter t (from (s + 1) ps))))) (sym e) other

  pub where_rising : (ps : List PlainPackage) → Rising (places_where t (members holds ps))
  where_rising ps = by (places_where t (members holds ps)) (where_rises 0 1 ps (omega arith))
    where
      by : (xs : List ℕ) → Rises 0 xs → Rising xs
      by xs h = rising_rest 0 xs h

rises_from : (x : ℕ) (xs : List ℕ) → IsStrictlyIncreasing (x ∷ xs) → Rises x xs
rises_from x [] up = tt
rises_from x (y ∷ ys) up = (up 0 (omega arith), rises_from y ys (λ k h. let next : suc k + 1 ≡ suc (k + 1) = omega arith in let higher : get_or (x ∷ y ∷ ys) (suc k) 0 < get_or (x ∷ y ∷ ys) (suc k + 1) 0 = up (suc k) (omega arith) in rw next at higher))

pub rising_from : (xs : List ℕ) → IsStrictlyIncreasing xs → Rising xs
rising_from [] up = tt
rising_from (x ∷ xs) up = rises_from x xs up

pub not_there : (p low : ℕ) (xs : List ℕ) → Rises low xs → p ≤ low → has xs p ≡ false
not_there p low [] up h = refl
not_there p low (x ∷ xs) up h = ap (λ b. b || has xs p) (ne_eqb x p (λ e. omega (arith, up.0))) ∙ not_there p x xs up.1 (omega (arith, up.0))

first_there : (x : ℕ) (xs : List ℕ) → has (x ∷ xs) x ≡ true
first_there x xs = ap (λ b. b || has xs x) (eq-eqb x x refl)

not_below : (p y : ℕ) (ys : List ℕ) → Rises y ys → p < y → has (y ∷ ys) p ≡ false
not_below p y ys up h = ap (λ b. b || has ys p) (ne_eqb y p (λ e. omega arith)) ∙ not_there p y ys up (omega arith)

pub same_rising : (xs ys : List ℕ) → Rising xs → Rising ys → ((p : ℕ) → has xs p ≡ has ys p) → xs ≡ ys
same_rising [] [] up more same = refl
same_rising [] (y ∷ ys) up more same = absurd (true≢false (sym (first_there y ys) ∙ sym (same y)))
same_rising (x ∷ xs) [] up more same = absurd (true≢false (sym (first_there x xs) ∙ same x))
same_rising (x ∷ xs) (y ∷ ys) up more same = elim (cases_order x y) [
  | inl e ↦ ap (λ z. z ∷ xs) e ∙ ap (λ zs. y ∷ zs) (same_rising xs ys (rising_rest x xs up) (rising_rest y ys more) (rest e))
  | inr other ↦ absurd (elim other [
    | inl less ↦ true≢false (sym (first_there x xs) ∙ same x ∙ not_below x y ys more less)
    | inr above ↦ true≢false (sym (first_there y ys) ∙ sym (same y) ∙ not_below y x xs up above)
  ])
]
  where
    rest : x ≡ y → (p : ℕ) → has xs p ≡ has ys p
    rest e p = elim (cases_eq x p) [
      | inl here ↦ not_there p x xs up (omega arith) ∙ sym (not_there p y ys more (omega arith))
      | inr apart ↦ ap (λ b. b || has xs p) (sym (ne_eqb x p apart)) ∙ same p ∙ ap (λ b. b || has ys p) (ne_eqb y p (λ is. apart (e ∙ is)))
    ]

-- ---- sorted, and each once

contains_has : (xs : List ℕ) (p : ℕ) → Contains xs p → has xs p ≡ true
contains_has xs p at = list_any_at (λ x. x == p) xs at.0 p at.1 (eq-eqb (get_or xs at.0 p) p at.2)

has_contains : (xs : List ℕ) (p : ℕ) → has xs p ≡ true → Contains xs p
has_contains xs p there = let at = Any-from_list_any (λ x. x == p) xs there in (at.0, at.2, get_or_default xs at.0 p at.1 at.2 ∙ at.3 ∙ eqb-true at.1 p at.4)

has_dedup : (xs : List ℕ) (p : ℕ) → has (dedup eqb xs) p ≡ has xs p
has_dedup xs p = both_ways (has (dedup eqb xs) p) (has xs p)
    (λ e. contains_has xs p (Contains-from_dedup eqb xs p (has_contains (dedup eqb xs) p e)))
    (λ e. contains_has (dedup eqb xs) p (Contains-dedup_nat xs p (has_contains xs p e)))

pub has_unique : (xs sorted : List ℕ) (p : ℕ) → IsPermutation xs sorted → has (dedup eqb sorted) p ≡ has xs p
has_unique xs sorted p moved = has_dedup sorted p ∙ sym (list_any-IsPermutation (λ x. x == p) xs sorted moved)

-- the places of all that pass, from an ascending list of which they are
pub rising_where : (t : Placed → Bool) (holds : ℕ → Bool) (status : List Placed) (ps : List PlainPackage) (found : List ℕ) → members holds ps ≡ status → IsStrictlyIncreasing found
    → ((p : ℕ) → has found p ≡ passes_at t p status) → found ≡ places_where t status
rising_where t holds status ps found is up told =
    same_rising found (places_where t (members holds ps)) (rising_from found up) (where_rising t holds ps)
    (λ p. told p ∙ ap (passes_at t p) (sym is) ∙ sym (has_where t p (members holds ps)))
    ∙ ap (places_where t) is

-- what a sort and `dedup` leave
pub unique_rises : (xs ys : List ℕ) → IsSorted nat_cmp xs → IsFiltered (DiffersFromLast eqb) [] xs ys → IsStrictlyIncreasing ys
unique_rises xs ys up kept = subst IsStrictlyIncreasing (sym (dedup_is eqb xs ys kept)) (IsStrictlyIncreasing-dedup xs up)

pub unique_same : (xs ys zs : List ℕ) → IsPermutation xs ys → IsFiltered (DiffersFromLast eqb) [] ys zs → (p : ℕ) → has zs p ≡ has xs p
unique_same xs ys zs moved kept p = ap (λ ws. has ws p) (dedup_is eqb ys zs kept) ∙ has_unique xs ys p moved
