-- Searches through mapped and filtered lists.
use Rattle.std.proofs.Common.{◌≡◌, Bool, true, false, cond, ◌&&◌, ◌||◌, List, [], ◌∷◌, Option, Some, refl, ap, ◌∙◌}
use Rattle.std.specs.Prelude.{filter, find, option_map}
use Rattle.std.specs.List.{list_any}
use Rattle.std.proofs.lemmas.Bool.{true≢false}
use Rattle.std.specs.Option.{is_some}
use Rattle.cudf_problem.proofs.ListLemmas.{is_some-find, is_some-option_map}

or_kept : {A : Type 0} (b : Bool) (p : A → Bool) (x : A) (xs : List A) (rest : Bool) → list_any p xs ≡ rest → list_any p (cond b (x ∷ xs) xs) ≡ ((b && p x) || rest)
or_kept true p x xs rest e = ap (λ r. p x || r) e
or_kept false p x xs rest e = e

pub list_any-filter : {A : Type 0} (p q : A → Bool) (xs : List A) → list_any p (filter q xs) ≡ list_any (λ x. q x && p x) xs
list_any-filter p q [] = refl
list_any-filter p q (x ∷ xs) = or_kept (q x) p x (filter q xs) _ (list_any-filter p q xs)

-- where nothing passes a test, nothing passes it with another
pub none_narrowed : {A : Type 0} (p q : A → Bool) (xs : List A) → list_any p xs ≡ false → list_any (λ x. q x && p x) xs ≡ false
none_narrowed p q [] none = refl
none_narrowed p q (x ∷ xs) none = by (p x) (q x) none (none_narrowed p q xs)
  where
    by : (b other : Bool) → (b || list_any p xs) ≡ false → (list_any p xs ≡ false → list_any (λ y. q y && p y) xs ≡ false) → ((other && b) || list_any (λ y. q y && p y) xs) ≡ false
    by true other none rest = absurd (true≢false none)
    by false true none rest = rest none
    by false false none rest = rest none

found_kept : {A : Type 0} (b : Bool) (p : A → Bool) (x : A) (xs : List A) (rest : Option A) → find p xs ≡ rest → find p (cond b (x ∷ xs) xs) ≡ cond (b && p x) (Some x) rest
found_kept true p x xs rest e = ap (λ r. cond (p x) (Some x) r) e
found_kept false p x xs rest e = e

pub find-filter : {A : Type 0} (p q : A → Bool) (xs : List A) → find p (filter q xs) ≡ find (λ x. q x && p x) xs
find-filter p q [] = refl
find-filter p q (x ∷ xs) = found_kept (q x) p x (filter q xs) _ (find-filter p q xs)

pub found_place : {A B : Type 0} (h : A → B) (test : A → Bool) (xs : List A) → is_some (option_map h (find test xs)) ≡ list_any test xs
found_place h test xs = is_some-option_map h (find test xs) ∙ is_some-find test xs
