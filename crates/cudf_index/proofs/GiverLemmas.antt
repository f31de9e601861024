-- How many packages give a number that meets a bound, from the lists of numbers that are kept of them.
use Rattle.std.proofs.Common.{◌≡◌, ℕ, ◌+◌, ◌-◌, ◌<◌, ◌≤◌, suc, Bool, true, false, not, cond, ◌||◌, ◌==◌, List, [], ◌∷◌, ◌++◌, length, length-append, get_or, Option, Some, None, refl, sym, ap, ◌∙◌, arith}
use Rattle.std.specs.Prelude.{slice_get, option_to_list}
use Rattle.std.specs.Cmp.{both_ways}
use Rattle.std.specs.List.{count_by, list_any}
use Rattle.std.proofs.Math.Bool.{or-false}
use Rattle.std.proofs.lemmas.Bool.{eq-eqb, eqb-true}
use Rattle.std.proofs.lemmas.Bool.Decides.{nat_tests}
use Rattle.std.proofs.lemmas.List.Folds.{list_any_at, Any-from_list_any}
use Rattle.std.proofs.lemmas.List.Sums.{count_by-le-length}
use Rattle.cudf_value.specs.declared.vpkg.Relop.{Relop}
use Rattle.cudf_value.specs.declared.vpkg.Relop.TheVariants.{Eq, Neq, Geq, Gt, Leq, Lt}
use Rattle.cudf_value.specs.Vpkgs.{meets}
use Rattle.cudf_index.specs.Working.NumbersByPackage.{count_over, sole_number}
use Rattle.cudf_index.specs.Working.Places.{has, HoldsSame}
use Rattle.cudf_index.proofs.CountLemmas.{count-cons, count-append, count-all}
use Rattle.cudf_index.proofs.PlaceLemmas.{Rises, Rising, rising_rest, not_there}

-- lists of the same numbers answer the same
pub any_same : (p : ℕ → Bool) (xs ys : List ℕ) → HoldsSame xs ys → list_any p ys ≡ list_any p xs
any_same p xs ys same = both_ways (list_any p ys) (list_any p xs) (there ys xs same) (there xs ys (λ n. sym (same n)))
  where
    there : (some others : List ℕ) → ((n : ℕ) → has some n ≡ has others n) → list_any p some ≡ true → list_any p others ≡ true
    there some others same any =
        let at = Any-from_list_any p some any in
        let kept = sym (same at.1) ∙ list_any_at (λ y. y == at.1) some at.0 at.1 at.2 (eq-eqb (get_or some at.0 at.1) at.1 at.3) in
        let other = Any-from_list_any (λ y. y == at.1) others kept in
        list_any_at p others other.0 other.1 other.2 (ap p (other.3 ∙ eqb-true other.1 at.1 other.4) ∙ at.4)

abbrev pub firsts : List ℕ → List ℕ
firsts ns = option_to_list (slice_get ns 0)

abbrev pub lasts : List ℕ → List ℕ
lasts ns = option_to_list (slice_get ns (length ns - 1))

abbrev pub soles : List ℕ → List ℕ
soles ns = option_to_list (sole_number ns)

-- ---- the numbers of one package

one : (p : ℕ → Bool) (n : ℕ) → count_by p (n ∷ []) ≡ cond (p n) 1 0
one p n = omega (arith, count-cons p n [])

module _ (p : ℕ → Bool) where
  -- where all numbers above one that fails fail
  first_tells : ((m n : ℕ) → m < n → p m ≡ false → p n ≡ false) → (ns : List ℕ) → Rising ns → count_by p (firsts ns) ≡ cond (list_any p ns) 1 0
  first_tells down [] up = refl
  first_tells down (n ∷ ns) up = one p n ∙ ap {B = ℕ} (λ b. cond b 1 0) (by (p n) (above n ns up))
    where
      above : (low : ℕ) (ms : List ℕ) → Rises low ms → p low ≡ false → list_any p ms ≡ false
      above low [] up none = refl
      above low (m ∷ ms) up none = ap (λ b. b || list_any p ms) (down low m up.0 none) ∙ above m ms up.1 (down low m up.0 none)

      by : (b : Bool) → (b ≡ false → list_any p ns ≡ false) → b ≡ (b || list_any p ns)
      by true rest = refl
      by false rest = sym (rest refl)

  -- where all above one that passes pass
  last_tells : ((m n : ℕ) → m < n → p m ≡ true → p n ≡ true) → (ns : List ℕ) → Rising ns → count_by p (lasts ns) ≡ cond (list_any p ns) 1 0
  last_tells up [] rises = refl
  last_tells up (n ∷ []) rises = one p n ∙ ap {B = ℕ} (λ b. cond b 1 0) (sym (or-false (p n)))
  last_tells up (n ∷ m ∷ ms) rises =
      ap (λ k. count_by p (option_to_list (slice_get (n ∷ m ∷ ms) k))) {x = length (n ∷ m ∷ ms) - 1} {y = suc (length (m ∷ ms) - 1)} (omega arith)
      ∙ last_tells up (m ∷ ms) rises.1 ∙ ap {B = ℕ} (λ b. cond b 1 0) (by (p n) (p m) (list_any p ms) (up n m rises.0))
    where
      by : (a b r : Bool) → (a ≡ true → b ≡ true) → (b || r) ≡ (a || (b || r))
      by false b r h = refl
      by true b r h = ap (λ c. c || r) (h refl)

-- each stands once
once : (m : ℕ) (ns : List ℕ) → Rising ns → count_by (λ n. n == m) ns ≡ cond (has ns m) 1 0
once m [] up = refl
once m (n ∷ ns) up = count-cons (λ k. k == m) n ns ∙ by (n == m) refl (once m ns (rising_rest n ns up))
  where
    by : (b : Bool) → (n == m) ≡ b → count_by (λ k. k == m) ns ≡ cond (has ns m) 1 0 → cond b 1 0 + count_by (λ k. k == m) ns ≡ cond (b || has ns m) 1 0
    by true same rest =
        let none : count_by (λ k. k == m) ns ≡ 0 = rest ∙ ap {B = ℕ} (λ b. cond b 1 0) (not_there m n ns up (omega (arith, eqb-true n m same))) in
        omega (arith, none)
    by false same rest = omega (arith, rest)

apart : (m n k : ℕ) (b : Bool) → n < k → (not (n == m) || (not (k == m) || b)) ≡ true
apart m n k b less = grind (arith, nat_tests)

pub one_counts : (bound : Option (Relop × ℕ)) (ns : List ℕ) → Rising ns → count_over bound (firsts ns) (lasts ns) ns (soles ns) ≡ cond (list_any (meets bound) ns) 1 0
one_counts None [] up = refl
one_counts None (n ∷ ns) up = refl
one_counts (Some (Eq, m)) ns up = once m ns up
one_counts (Some (Neq, m)) [] up = refl
one_counts (Some (Neq, m)) (n ∷ []) up = ap {B = ℕ} (λ k. 1 - k) (one (λ k. k == m) n) ∙ by (n == m)
  where
    by : (b : Bool) → ◌≡◌ {A = ℕ} (1 - cond b 1 0) (cond (not b || false) 1 0)
    by true = refl
    by false = refl
one_counts (Some (Neq, m)) (n ∷ k ∷ ks) up = ap {B = ℕ} (λ b. cond b 1 0) (sym (apart m n k (list_any (meets (Some (Neq, m))) ks) up.0))
one_counts (Some (Geq, m)) ns up = last_tells (meets (Some (Geq, m))) (λ j k less met. grind (arith, nat_tests)) ns up
one_counts (Some (Gt, m)) ns up = last_tells (meets (Some (Gt, m))) (λ j k less met. grind (arith, nat_tests)) ns up
one_counts (Some (Leq, m)) ns up = first_tells (meets (Some (Leq, m))) (λ j k less met. grind (arith, nat_tests)) ns up
one_counts (Some (Lt, m)) ns up = first_tells (meets (Some (Lt, m))) (λ j k less met. grind (arith, nat_tests)) ns up

pub sole_fewer : (ns : List ℕ) → length (soles ns) ≤ length (firsts ns)
sole_fewer [] = omega arith
sole_fewer (n ∷ []) = omega arith
sole_fewer (n ∷ k ∷ ks) = omega arith

-- ---- those of more packages

pub counts_more : (bound : Option (Relop × ℕ)) (l g e o l' g' e' o' : List ℕ) → length o ≤ length l → length o' ≤ length l'
    → count_over bound (l ++ l') (g ++ g') (e ++ e') (o ++ o') ≡ count_over bound l g e o + count_over bound l' g' e' o'
counts_more None l g e o l' g' e' o' few fewer = length-append l l'
counts_more (Some (Eq, n)) l g e o l' g' e' o' few fewer = count-append (λ m. m == n) e e'
counts_more (Some (Neq, n)) l g e o l' g' e' o' few fewer =
    omega (arith, length-append l l', count-append (λ m. m == n) o o', count_by-le-length (λ m. m == n) o, count_by-le-length (λ m. m == n) o')
counts_more (Some (Geq, n)) l g e o l' g' e' o' few fewer = count-append (meets (Some (Geq, n))) g g'
counts_more (Some (Gt, n)) l g e o l' g' e' o' few fewer = count-append (meets (Some (Gt, n))) g g'
counts_more (Some (Leq, n)) l g e o l' g' e' o' few fewer = count-append (meets (Some (Leq, n))) l l'
counts_more (Some (Lt, n)) l g e o l' g' e' o' few fewer = count-append (meets (Some (Lt, n))) l l'

-- the same numbers in another order
abbrev pub SameCounts : List ℕ → List ℕ → Type 0
SameCounts xs ys = (p : ℕ → Bool) → count_by p ys ≡ count_by p xs

pub same_length : (xs ys : List ℕ) → SameCounts xs ys → length ys ≡ length xs
same_length xs ys same = sym (count-all ys) ∙ same (λ n. true) ∙ count-all xs

pub counts_same : (bound : Option (Relop × ℕ)) (l g e o l' g' e' o' : List ℕ) → SameCounts l l' → SameCounts g g' → SameCounts e e' → SameCounts o o' → count_over bound l' g' e' o' ≡ count_over bound l g e o
counts_same None l g e o l' g' e' o' least greatest each only = same_length l l' least
counts_same (Some (Eq, n)) l g e o l' g' e' o' least greatest each only = each (λ m. m == n)
counts_same (Some (Neq, n)) l g e o l' g' e' o' least greatest each only = (λ i. same_length l l' least i - only (λ m. m == n) i)
counts_same (Some (Geq, n)) l g e o l' g' e' o' least greatest each only = greatest (meets (Some (Geq, n)))
counts_same (Some (Gt, n)) l g e o l' g' e' o' least greatest each only = greatest (meets (Some (Gt, n)))
counts_same (Some (Leq, n)) l g e o l' g' e' o' least greatest each only = least (meets (Some (Leq, n)))
counts_same (Some (Lt, n)) l g e o l' g' e' o' least greatest each only = least (meets (Some (Lt, n)))
