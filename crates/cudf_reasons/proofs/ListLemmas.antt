-- What a filter keeps, and tests of all elements.
use Rattle.std.proofs.Common.{◌≡◌, ℕ, ◌<◌, ◌≤◌, zero, suc, Bool, true, false, cond, List, [], ◌∷◌, length, get_or, filter, take, refl, sym, ap, ◌∙◌, subst, arith}
use Rattle.std.specs.Prelude.{All}
use Rattle.std.specs.List.{list_all}
use Rattle.std.proofs.lemmas.Bool.{and_parts, and_from, cond-true, cond-false}
use Rattle.std.proofs.lemmas.List.Elements.{All-cons, All-head, All-nil, All-tail}

pub same_bool : (a b : Bool) → (a ≡ true → b ≡ true) → (b ≡ true → a ≡ true) → a ≡ b
same_bool true true f g = refl
same_bool true false f g = sym (f refl)
same_bool false true f g = g refl
same_bool false false f g = refl

module _ {X : Type 0} where
  -- nothing passes
  pub filter_none : (p : X → Bool) (xs : List X) (d : X) → ((k : ℕ) → k < length xs → p (get_or xs k d) ≡ false) → filter p xs ≡ []
  filter_none p [] d none = refl
  filter_none p (x ∷ xs) d none = cond-false (p x) (x ∷ filter p xs) (filter p xs) (none 0 (omega arith)) ∙ filter_none p xs d (λ k h. none (suc k) (omega arith))

  -- all that pass, by their places
  pub filter_all : (p : X → Bool) (R : X → Type 0) (xs : List X) (d : X) → ((k : ℕ) → k < length xs → p (get_or xs k d) ≡ true → R (get_or xs k d)) → All R (filter p xs)
  filter_all p R [] d each = All-nil R
  filter_all p R (x ∷ xs) d each = by (p x) refl (filter_all p R xs d (λ k h passes. each (suc k) (omega arith) passes))
    where
      by : (b : Bool) → p x ≡ b → All R (filter p xs) → All R (cond b (x ∷ filter p xs) (filter p xs))
      by true passes later = All-cons R x (filter p xs) (each 0 (omega arith) passes) later
      by false fails later = later

  pub filter_at : (p : X → Bool) (R : X → Type 0) (xs : List X) (k : ℕ) (d : X) → All R (filter p xs) → k < length xs → p (get_or xs k d) ≡ true → R (get_or xs k d)
  filter_at p R [] k d all within passes = absurd (omega arith)
  filter_at p R (x ∷ xs) zero d all within passes = All-head R x (filter p xs) (subst (All R) (cond-true (p x) (x ∷ filter p xs) (filter p xs) passes) all)
  filter_at p R (x ∷ xs) (suc k) d all within passes = by (p x) all (λ rest. filter_at p R xs k d rest (omega arith) passes)
    where
      by : (b : Bool) → All R (cond b (x ∷ filter p xs) (filter p xs)) → (All R (filter p xs) → R (get_or xs k d)) → R (get_or xs k d)
      by true all later = later (All-tail R x (filter p xs) all)
      by false all later = later all

  -- where only those pass that are between two places
  pub filter_before : (p : X → Bool) (xs : List X) (n : ℕ) (d : X) → ((k : ℕ) → k < length xs → k < n → p (get_or xs k d) ≡ false) → filter p (take n xs) ≡ []
  filter_before p xs zero d none = refl
  filter_before p [] (suc n) d none = refl
  filter_before p (x ∷ xs) (suc n) d none =
      cond-false (p x) (x ∷ filter p (take n xs)) (filter p (take n xs)) (none 0 (omega arith) (omega arith)) ∙ filter_before p xs n d (λ k h before. none (suc k) (omega arith) (omega arith))

  pub filter_upto : (p : X → Bool) (xs : List X) (n : ℕ) (d : X) → ((k : ℕ) → k < length xs → n ≤ k → p (get_or xs k d) ≡ false) → filter p (take n xs) ≡ filter p xs
  filter_upto p xs zero d none = sym (filter_none p xs d (λ k h. none k h (omega arith)))
  filter_upto p [] (suc n) d none = refl
  filter_upto p (x ∷ xs) (suc n) d none = ap (λ ys. cond (p x) (x ∷ ys) ys) (filter_upto p xs n d (λ k h behind. none (suc k) (omega arith) (omega arith)))

  -- what holds of all, by their places
  pub all_places : (R : X → Type 0) (xs : List X) (d : X) → ((k : ℕ) → k < length xs → R (get_or xs k d)) → All R xs
  all_places R [] d each = All-nil R
  all_places R (x ∷ xs) d each = All-cons R x xs (each 0 (omega arith)) (all_places R xs d (λ k h. each (suc k) (omega arith)))

  -- a test of all, at one
  pub all_at : (p : X → Bool) (xs : List X) (i : ℕ) (d : X) → list_all p xs ≡ true → i < length xs → p (get_or xs i d) ≡ true
  all_at p [] i d all within = absurd (omega arith)
  all_at p (x ∷ xs) zero d all within = (and_parts (p x) (list_all p xs) all).0
  all_at p (x ∷ xs) (suc i) d all within = all_at p xs i d (and_parts (p x) (list_all p xs) all).1 (omega arith)

  pub all_from : (p : X → Bool) (xs : List X) → ((i : ℕ) (d : X) → i < length xs → p (get_or xs i d) ≡ true) → list_all p xs ≡ true
  all_from p [] each = refl
  all_from p (x ∷ xs) each = and_from (p x) (list_all p xs) (each 0 x (omega arith)) (all_from p xs (λ i d h. each (suc i) d (omega arith)))

  -- a weaker test of all
  pub all_weaker : (p q : X → Bool) (xs : List X) → ((x : X) → p x ≡ true → q x ≡ true) → list_all p xs ≡ true → list_all q xs ≡ true
  all_weaker p q [] weaker all = refl
  all_weaker p q (x ∷ xs) weaker all =
      let parts = and_parts (p x) (list_all p xs) all in
      and_from (q x) (list_all q xs) (weaker x parts.0) (all_weaker p q xs weaker parts.1)
