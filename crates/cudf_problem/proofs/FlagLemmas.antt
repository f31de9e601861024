-- Flags as the set of their places.
use Rattle.std.proofs.Common.{◌≡◌, ℕ, zero, suc, ◌+◌, ◌-◌, ◌<◌, ◌==◌, nat_eq, Bool, true, false, ◌||◌, List, [], ◌∷◌, map, get_or, slice_get, None, refl, sym, ap, ◌∙◌, arith, if◌then◌else◌}
use Rattle.std.proofs.lemmas.Bool.Decides.{nat_tests}
use Rattle.std.specs.FinSet as set
use Rattle.std.specs.Ordering.{nat_cmp}
use Rattle.std.specs.List.{list_any}
use Rattle.std.specs.Option.{option_map_or}
use Rattle.cudf_problem.specs.Working.Flags.{places_from, flag_at}

not_same : (q n : ℕ) → q < n → nat_eq n q ≡ false
not_same q n lt = grind (arith, nat_tests)

same : (n : ℕ) → nat_eq n (n + 0) ≡ true
same n = grind (arith, nat_tests)

none_below : (n q : ℕ) (flags : List Bool) → q < n → list_any (λ y. nat_eq y q) (places_from n flags) ≡ false
none_below n q [] lt = refl
none_below n q (true ∷ flags) lt = (λ i. not_same q n lt i || none_below (n + 1) q flags (omega arith) i)
none_below n q (false ∷ flags) lt = none_below (n + 1) q flags (omega arith)

flag_of : (n k : ℕ) (flags : List Bool) → list_any (λ y. nat_eq y (n + k)) (places_from n flags) ≡ get_or flags k false
flag_of n k [] = refl
flag_of n zero (true ∷ flags) = ap (λ b. b || list_any (λ y. nat_eq y (n + 0)) (places_from (n + 1) flags)) (same n)
flag_of n zero (false ∷ flags) = none_below (n + 1) (n + 0) flags (omega arith)
flag_of n (suc k) (true ∷ flags) =
    let other : nat_eq n (n + suc k) ≡ false = grind (arith, nat_tests) in
    let next : n + suc k ≡ n + 1 + k = omega arith in
    ap (λ b. b || list_any (λ y. nat_eq y (n + suc k)) (places_from (n + 1) flags)) other
    ∙ ap (λ q. list_any (λ y. nat_eq y q) (places_from (n + 1) flags)) next ∙ flag_of (n + 1) k flags
flag_of n (suc k) (false ∷ flags) =
    let next : n + suc k ≡ n + 1 + k = omega arith in
    ap (λ q. list_any (λ y. nat_eq y q) (places_from (n + 1) flags)) next ∙ flag_of (n + 1) k flags

-- a place is in the set of the flags' places where its flag is set
pub contains-places : (flags : List Bool) (place : ℕ) → set.contains (set.from_list {R = nat_cmp} (places_from 1 flags)) place ≡ flag_at flags place
contains-places flags place = set.contains-from_list_nat (places_from 1 flags) place ∙ by place
  where
    by : (p : ℕ) → list_any (λ y. nat_eq y p) (places_from 1 flags) ≡ flag_at flags p
    by zero = none_below 1 0 flags (omega arith)
    by (suc k) =
        let next : suc k ≡ 1 + k = omega arith in
        let back : suc k - 1 ≡ k = omega arith in
        let other : (suc k == 0) ≡ false = grind (arith, nat_tests) in
        ap (λ q. list_any (λ y. nat_eq y q) (places_from 1 flags)) next ∙ flag_of 1 k flags
        ∙ ap (λ j. get_or flags j false) (sym back) ∙ ap (λ b. if b then false else get_or flags (suc k - 1) false) (sym other)

-- a flag for each, at the index of one of them
pub get_or-flags : {A : Type 0} (flag : A → Bool) (xs : List A) (k : ℕ) → get_or (map flag xs) k false ≡ option_map_or flag (slice_get xs k) false
get_or-flags flag [] k = refl
get_or-flags flag (x ∷ xs) zero = refl
get_or-flags flag (x ∷ xs) (suc k) = get_or-flags flag xs k

-- whether the flag of a place is set, where there is a flag for each
pub flag_at-flags : {A : Type 0} (flag : A → Bool) (xs : List A) (place : ℕ)
    → flag_at (map flag xs) place ≡ option_map_or flag (if place == 0 then None else slice_get xs (place - 1)) false
flag_at-flags {A} flag xs place = by (place == 0)
  where
    by : (b : Bool) → (if b then false else get_or (map flag xs) (place - 1) false) ≡ option_map_or flag (if b then None else slice_get xs (place - 1)) false
    by true = refl
    by false = get_or-flags flag xs (place - 1)
