-- Places in ascending order, each once.
use Rattle.std.proofs.Common.{◌≡◌, ◌≢◌, ℕ, ◌<◌, ◌≤◌, ◌==◌, zero, suc, Bool, true, false, ◌||◌, List, [], ◌∷◌, length, get_or, Contains, ◌⊎◌, inl, inr, refl, sym, ap, ◌∙◌, subst, arith, nat_lt, eqb, eqb-true, eq-eqb}
use Rattle.std.specs.Prelude.{if◌then◌else◌, AllPairs}
use Rattle.std.specs.List.{dedup, list_any}
use Rattle.std.specs.List.Retain.{IsFiltered, DiffersFromLast}
use Rattle.std.specs.List.Sorted.{IsPermutation, IsSorted}
use Rattle.std.specs.Ordering.{nat_cmp}
use Rattle.std.proofs.lemmas.Bool.{ltb-true, ltb-false, ne_eqb, or_cases, or_left, or_right, cases_eq, true≢false}
use Rattle.std.proofs.lemmas.List.Filters.{dedup_is}
use Rattle.std.proofs.lemmas.List.Kept.{AllPairs-from_increasing, Contains-dedup_nat, Contains-from_dedup}
use Rattle.std.proofs.lemmas.List.Sorted.{list_any-IsPermutation}
use Rattle.std.proofs.lemmas.Map.Keys.{IsStrictlyIncreasing-dedup}
use Rattle.cudf_reasons.specs.Reasons.{ascending, with_place}
use Rattle.cudf_reasons.proofs.ListLemmas.{same_bool}

abbrev member : ℕ → List ℕ → Bool
member p xs = list_any (λ q. p == q) xs

-- each is below all later ones
abbrev Rises : List ℕ → Type 0
Rises [] = Unit {0}
Rises (x ∷ xs) = ((p : ℕ) → member p xs ≡ true → x < p) × Rises xs

-- ---- rising lists of the same members are one list

first_there : (x y : ℕ) (ys : List ℕ) → member x (y ∷ ys) ≡ true → ((p : ℕ) → member p ys ≡ true → y < p) → y ≤ x
first_there x y ys there above = by (or_cases (x == y) (member x ys) there)
  where
    by : ((x == y) ≡ true) ⊎ (member x ys ≡ true) → y ≤ x
    by (inl e) = omega (arith, eqb-true x y e)
    by (inr later) = omega (arith, above x later)

its_own : (x : ℕ) (xs : List ℕ) → member x (x ∷ xs) ≡ true
its_own x xs = or_left (x == x) (member x xs) (eq-eqb x x refl)

-- one that isn't the first is among the others
pub later_there : (x p : ℕ) (xs ys : List ℕ) → x < p → member p (x ∷ xs) ≡ member p (x ∷ ys) → member p xs ≡ member p ys
later_there x p xs ys above same =
    let other : (p == x) ≡ false = ne_eqb p x (λ e. omega arith) in
    rw other at same

later_same : (x : ℕ) (xs ys : List ℕ) → ((p : ℕ) → member p xs ≡ true → x < p) → ((p : ℕ) → member p ys ≡ true → x < p) → ((p : ℕ) → member p (x ∷ xs) ≡ member p (x ∷ ys)) → (p : ℕ) → member p xs ≡ member p ys
later_same x xs ys above above' same p = same_bool (member p xs) (member p ys) (λ h. sym (later_there x p xs ys (above p h) (same p)) ∙ h) (λ h. later_there x p xs ys (above' p h) (same p) ∙ h)

same_rising : (xs ys : List ℕ) → Rises xs → Rises ys → ((p : ℕ) → member p xs ≡ member p ys) → xs ≡ ys
same_rising [] [] up up' same = refl
same_rising [] (y ∷ ys) up up' same = absurd (true≢false (sym (its_own y ys) ∙ sym (same y)))
same_rising (x ∷ xs) [] up up' same = absurd (true≢false (sym (its_own x xs) ∙ same x))
same_rising (x ∷ xs) (y ∷ ys) up up' same =
    let below : y ≤ x = first_there x y ys (sym (same x) ∙ its_own x xs) up'.0 in
    let above : x ≤ y = first_there y x xs (same y ∙ its_own y ys) up.0 in
    let e : y ≡ x = omega arith in
    let same' : (p : ℕ) → member p (x ∷ xs) ≡ member p (x ∷ ys) = λ p. same p ∙ ap (λ z. member p (z ∷ ys)) e in
    let above' : (p : ℕ) → member p ys ≡ true → x < p = subst (λ (z : ℕ). (p : ℕ) → member p ys ≡ true → z < p) e up'.0 in
    ap (λ zs. x ∷ zs) (same_rising xs ys up.1 up'.1 (later_same x xs ys up.0 above' same')) ∙ ap (λ z. z ∷ ys) (sym e)

-- ---- what is put into a list

twice : (a b c : Bool) → a ≡ b → (b || c) ≡ (a || (b || c))
twice true true c e = refl
twice false false c e = refl
twice true false c e = absurd (cc e)
twice false true c e = absurd (cc e)

swapped : (a b c : Bool) → (b || (a || c)) ≡ (a || (b || c))
swapped true true c = refl
swapped true false c = refl
swapped false true c = refl
swapped false false c = refl

member_with : (p q : ℕ) (xs : List ℕ) → member p (with_place q xs) ≡ ((p == q) || member p xs)
member_with p q [] = refl
member_with p q (x ∷ xs) = by (nat_lt q x) (q == x) refl (member_with p q xs)
  where
    by : (a b : Bool) → (q == x) ≡ b → member p (with_place q xs) ≡ ((p == q) || member p xs)
        → member p (if a then q ∷ x ∷ xs else if b then x ∷ xs else x ∷ with_place q xs) ≡ ((p == q) || ((p == x) || member p xs))
    by true b e later = refl
    by false true e later = twice (p == q) (p == x) (member p xs) (ap (λ z. p == z) (eqb-true q x e))
    by false false e later = ap (λ c. (p == x) || c) later ∙ swapped (p == q) (p == x) (member p xs)

rises_with : (q : ℕ) (xs : List ℕ) → Rises xs → Rises (with_place q xs)
rises_with q [] up = (λ p h. absurd (cc h), tt)
rises_with q (x ∷ xs) up = by (nat_lt q x) (q == x) refl refl (rises_with q xs up.1)
  where
    above : q < x → (p : ℕ) → member p (x ∷ xs) ≡ true → q < p
    above less p h = over (or_cases (p == x) (member p xs) h)
      where
        over : ((p == x) ≡ true) ⊎ (member p xs ≡ true) → q < p
        over (inl e) = omega (arith, eqb-true p x e)
        over (inr later) = omega (arith, up.0 p later)

    still : x < q → (p : ℕ) → member p (with_place q xs) ≡ true → x < p
    still less p h = over (or_cases (p == q) (member p xs) (sym (member_with p q xs) ∙ h))
      where
        over : ((p == q) ≡ true) ⊎ (member p xs ≡ true) → x < p
        over (inl e) = omega (arith, eqb-true p q e)
        over (inr later) = up.0 p later

    by : (a b : Bool) → nat_lt q x ≡ a → (q == x) ≡ b → Rises (with_place q xs) → Rises (if a then q ∷ x ∷ xs else if b then x ∷ xs else x ∷ with_place q xs)
    by true b less e later = (above (ltb-true q x less), up)
    by false true less e later = up
    by false false less e later = (still (differ (ltb-false q x less) (cases_eq q x)), later)
      where
        differ : x ≤ q → (q ≡ x) ⊎ (q ≢ x) → x < q
        differ h (inl same) = absurd (true≢false (sym (eq-eqb q x same) ∙ e))
        differ h (inr other) = omega arith

rises_ascending : (xs : List ℕ) → Rises (ascending xs)
rises_ascending [] = tt
rises_ascending (x ∷ xs) = rises_with x (ascending xs) (rises_ascending xs)

member_ascending : (p : ℕ) (xs : List ℕ) → member p (ascending xs) ≡ member p xs
member_ascending p [] = refl
member_ascending p (x ∷ xs) = member_with p x (ascending xs) ∙ ap (λ c. (p == x) || c) (member_ascending p xs)

-- ---- a sort, and `dedup`

member_at : (p : ℕ) (xs : List ℕ) (k : ℕ) (d : ℕ) → k < length xs → get_or xs k d ≡ p → member p xs ≡ true
member_at p [] k d within e = absurd (omega arith)
member_at p (x ∷ xs) zero d within e = or_left (p == x) (member p xs) (eq-eqb p x (sym e))
member_at p (x ∷ xs) (suc k) d within e = or_right (p == x) (member p xs) (member_at p xs k d (omega arith) e)

at_member : (p : ℕ) (xs : List ℕ) → member p xs ≡ true → Contains xs p
at_member p [] h = absurd (cc h)
at_member p (x ∷ xs) h = by (or_cases (p == x) (member p xs) h) (at_member p xs)
  where
    by : ((p == x) ≡ true) ⊎ (member p xs ≡ true) → (member p xs ≡ true → Contains xs p) → Contains (x ∷ xs) p
    by (inl e) later = (0, omega arith, sym (eqb-true p x e))
    by (inr there) later = let found = later there in (suc found.0, omega (arith, found.1), found.2)

rises_from : (xs : List ℕ) → AllPairs (λ x y. x < y) xs → Rises xs
rises_from [] pairs = tt
rises_from (x ∷ xs) pairs = (λ p h. above p (at_member p xs h), rises_from xs (λ i j d before within. pairs (suc i) (suc j) d (omega arith) (omega arith)))
  where
    above : (p : ℕ) → Contains xs p → x < p
    above p found = subst (λ (z : ℕ). x < z) found.2 (pairs 0 (suc found.0) p (omega arith) (omega (arith, found.1)))

member_dedup : (p : ℕ) (xs : List ℕ) → member p (dedup eqb xs) ≡ member p xs
member_dedup p xs = same_bool (member p (dedup eqb xs)) (member p xs)
    (λ h. let found = Contains-from_dedup eqb xs p (at_member p (dedup eqb xs) h) in member_at p xs found.0 p found.1 found.2)
    (λ h. let found = Contains-dedup_nat xs p (at_member p xs h) in member_at p (dedup eqb xs) found.0 p found.1 found.2)

pub sorted_once : (xs sorted once : List ℕ) → IsPermutation xs sorted → IsSorted nat_cmp sorted → IsFiltered (DiffersFromLast eqb) [] sorted once → once ≡ ascending xs
sorted_once xs sorted once moved up kept =
    let is : once ≡ dedup eqb sorted = dedup_is eqb sorted once kept in
    is ∙ same_rising (dedup eqb sorted) (ascending xs) (rises_from (dedup eqb sorted) (AllPairs-from_increasing (dedup eqb sorted) (IsStrictlyIncreasing-dedup sorted up))) (rises_ascending xs)
    (λ p. member_dedup p sorted ∙ sym (list_any-IsPermutation (λ q. p == q) xs sorted moved) ∙ sym (member_ascending p xs))
