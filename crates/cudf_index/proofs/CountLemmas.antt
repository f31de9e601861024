-- How many items pass a test.
use Rattle.std.proofs.Common.{◌≡◌, ℕ, ◌+◌, ◌<◌, ◌≤◌, zero, suc, Bool, true, false, not, cond, ◌||◌, ◌&&◌, ◌==◌, List, [], ◌∷◌, ◌++◌, length, ◌-◌, get_or, take, refl, sym, ap, ◌∙◌, arith, nat_lt, nat_le, add-one}
use Rattle.std.specs.Prelude.{if◌then◌else◌}
use Rattle.std.specs.List.{count_by, list_any}
use Rattle.std.specs.List.Sorted.{IsPartitionPoint}
use Rattle.std.proofs.lemmas.List.{take_all}
use Rattle.std.proofs.lemmas.List.Sums.{count_by_more_yes, count_by_more_no, sum_by-cons, sum_by-append}
use Rattle.std.proofs.lemmas.Bool.Decides.{nat_tests}

module _ {X : Type 0} where
  -- ---- one item more

  pub count-cons : (p : X → Bool) (x : X) (xs : List X) → count_by p (x ∷ xs) ≡ cond (p x) 1 0 + count_by p xs
  count-cons p x xs = sum_by-cons (λ y. cond (p y) 1 0) x xs

  pub count-append : (p : X → Bool) (xs ys : List X) → count_by p (xs ++ ys) ≡ count_by p xs + count_by p ys
  count-append p xs ys = sum_by-append (λ y. cond (p y) 1 0) xs ys

  -- two tests of which each item passes as many as r lets through
  pub count-sum : (p q r : X → Bool) → ((x : X) → cond (p x) 1 0 + cond (q x) 1 0 ≡ cond (r x) 1 0) → (xs : List X) → count_by p xs + count_by q xs ≡ count_by r xs
  count-sum p q r each [] = refl
  count-sum p q r each (x ∷ xs) = omega (arith, count-cons p x xs, count-cons q x xs, count-cons r x xs, each x, count-sum p q r each xs)

  pub count-all : (xs : List X) → count_by (λ x. true) xs ≡ length xs
  count-all [] = refl
  count-all (x ∷ xs) = omega (arith, count-cons (λ y. true) x xs, count-all xs)

  pub any-count : (p : X → Bool) (xs : List X) → list_any p xs ≡ nat_lt 0 (count_by p xs)
  any-count p [] = refl
  any-count p (x ∷ xs) = by (p x) (list_any p xs) (count_by p xs) (any-count p xs) ∙ ap (nat_lt 0) (sym (count-cons p x xs))
    where
      by : (b r : Bool) (n : ℕ) → r ≡ nat_lt 0 n → (b || r) ≡ nat_lt 0 (cond b 1 0 + n)
      by true r n e = grind (arith, nat_tests)
      by false r n e = grind (arith, nat_tests)

  -- ---- the items before a point pass, the others don't

  count-front : (p : X → Bool) (xs : List X) (d : X) (i : ℕ) → i ≤ length xs → ((k : ℕ) → k < i → p (get_or xs k d) ≡ true) → count_by p (take i xs) ≡ i
  count-front p xs d zero within pass = refl
  count-front p xs d (suc i) within pass =
      let more = count_by_more_yes p xs i d (omega arith) (pass i (omega arith)) in
      let front = count-front p xs d i (omega arith) (λ k h. pass k (omega arith)) in
      let next : count_by p (take (suc i) xs) ≡ count_by p (take (i + 1) xs) = ap {B = ℕ} (λ n. count_by p (take n xs)) (sym (add-one i)) in
      omega (arith, next, more, front)

  count-behind : (p : X → Bool) (xs : List X) (d : X) (i m : ℕ) → i + m ≤ length xs → ((k : ℕ) → i ≤ k → k < length xs → p (get_or xs k d) ≡ false) → count_by p (take (i + m) xs) ≡ count_by p (take i xs)
  count-behind p xs d i zero within fail = ap (λ n. count_by p (take n xs)) (omega arith)
  count-behind p xs d i (suc m) within fail =
      ap (λ n. count_by p (take n xs)) (omega arith)
      ∙ count_by_more_no p xs (i + m) d (omega arith) (fail (i + m) (omega arith) (omega arith))
      ∙ count-behind p xs d i m (omega arith) fail

  pub count-point : (p : X → Bool) (xs : List X) (d : X) (i : ℕ) → i ≤ length xs → IsPartitionPoint (λ x. p x ≡ true) (λ x. p x ≡ false) xs i → i ≡ count_by p xs
  count-point p xs d i within point =
      sym (count-front p xs d i within (λ k h. point.0 k d (omega arith) h))
      ∙ sym (count-behind p xs d i (length xs - i) (omega arith) (λ k h l. point.1 k d h l))
      ∙ ap (count_by p) (take_all (i + (length xs - i)) xs (omega arith))

-- ---- numbers

pub unless : (u : ℕ) (b : Bool) (n : ℕ) → nat_lt u (if b then 0 else n) ≡ (nat_lt u n && not b)
unless u true n = grind (arith, nat_tests)
unless u false n = grind (arith, nat_tests)

pub below_equal : (n m : ℕ) → cond (nat_lt m n) 1 0 + cond (m == n) 1 0 ≡ cond (nat_le m n) 1 0
below_equal n m = grind (arith, nat_tests)

pub equal_unequal : (n m : ℕ) → cond (not (m == n)) 1 0 + cond (m == n) 1 0 ≡ cond true 1 0
equal_unequal n m = grind (arith, nat_tests)

pub from_below : (n m : ℕ) → cond (nat_le n m) 1 0 + cond (nat_lt m n) 1 0 ≡ cond true 1 0
from_below n m = grind (arith, nat_tests)

pub above_up_to : (n m : ℕ) → cond (nat_lt n m) 1 0 + cond (nat_le m n) 1 0 ≡ cond true 1 0
above_up_to n m = grind (arith, nat_tests)
