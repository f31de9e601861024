-- Tests of some element of lists that are made of others.
use Rattle.std.proofs.Common.{◌≡◌, ℕ, zero, suc, Bool, true, false, not, ◌&&◌, ◌||◌, cond, List, [], ◌∷◌, ◌++◌, filter, refl, sym, subst, ap, ◌∙◌, ◌⊎◌, inl, inr, arith}
use Rattle.std.specs.Prelude.{Contains, Some, slice_get}
use Rattle.std.specs.List.{list_all, list_any, flat_map}
use Rattle.std.proofs.Math.Bool.{and_comm, or-true}
pub use Rattle.std.proofs.Math.Bool.{and-false}
use Rattle.std.proofs.lemmas.Grind.{common_steps}
use Rattle.std.proofs.lemmas.List.Elements.{Contains-append_cases, Contains-append_right}
use Rattle.std.proofs.lemmas.List.Folds.{list_any-append}
use Rattle.cudf_referee.proofs.ListLemmas.{and_left, and_right}

-- ---- truth values

pub and-swap : (a b : Bool) → (a && b) ≡ (b && a)
and-swap a b = and_comm a b

pub or_left : (a b : Bool) → a ≡ true → (a || b) ≡ true
or_left a b h = ap (λ x. x || b) h

pub or_right : (a b : Bool) → b ≡ true → (a || b) ≡ true
or_right a b h = ap (λ x. a || x) h ∙ or-true a

-- ---- lists

pub list_any-same : {A : Type 0} (p q : A → Bool) → ((x : A) → p x ≡ q x) → (xs : List A) → list_any p xs ≡ list_any q xs
list_any-same p q same xs = ap (λ test. list_any test xs) (λ i x. same x i)

pub list_any-flat : {A B : Type 0} (test : B → Bool) (f : A → List B) (xs : List A) → list_any test (flat_map f xs) ≡ list_any (λ x. list_any test (f x)) xs
list_any-flat test f [] = refl
list_any-flat test f (x ∷ xs) = list_any-append test (f x) (flat_map f xs) ∙ ap (λ b. list_any test (f x) || b) (list_any-flat test f xs)

none : {A : Type 0} (xs : List A) → list_any (λ x. false) xs ≡ false
none [] = refl
none (x ∷ xs) = none xs

pub list_any-or : {A : Type 0} (p q : A → Bool) (xs : List A) → list_any (λ x. p x || q x) xs ≡ (list_any p xs || list_any q xs)
list_any-or p q [] = refl
list_any-or p q (x ∷ xs) = grind (arith, common_steps, list_any-or p q xs)

pub list_any-swap : {A B : Type 0} (test : A → B → Bool) (xs : List A) (ys : List B) → list_any (λ x. list_any (test x) ys) xs ≡ list_any (λ y. list_any (λ x. test x y) xs) ys
list_any-swap test [] ys = sym (none ys)
list_any-swap test (x ∷ xs) ys = ap (λ b. list_any (test x) ys || b) (list_any-swap test xs ys) ∙ sym (list_any-or (test x) (λ y. list_any (λ z. test z y) xs) ys)

-- not all pass where some don't
pub not_all : {A : Type 0} (p : A → Bool) (xs : List A) → not (list_all p xs) ≡ list_any (λ x. not (p x)) xs
not_all p [] = refl
not_all p (x ∷ xs) = grind (arith, common_steps, not_all p xs)

-- tests need be the same, and what is made of an element too, where all elements pass another test
pub list_any-where : {A : Type 0} (given p q : A → Bool) → ((x : A) → given x ≡ true → p x ≡ q x) → (xs : List A) → list_all given xs ≡ true → list_any p xs ≡ list_any q xs
list_any-where given p q same [] h = refl
list_any-where given p q same (x ∷ xs) h = λ i. same x (and_left (given x) (list_all given xs) h) i || list_any-where given p q same xs (and_right (given x) (list_all given xs) h) i

pub flat_map-where : {A B : Type 0} (given : A → Bool) (f g : A → List B) → ((x : A) → given x ≡ true → f x ≡ g x) → (xs : List A) → list_all given xs ≡ true → flat_map f xs ≡ flat_map g xs
flat_map-where given f g same [] h = refl
flat_map-where given f g same (x ∷ xs) h = λ i. same x (and_left (given x) (list_all given xs) h) i ++ flat_map-where given f g same xs (and_right (given x) (list_all given xs) h) i

-- x is one of the elements: what is true of it is true of one
abbrev pub IsOneOf : {A : Type 0} → List A → A → Type 0
IsOneOf {A} xs x = (test : A → Bool) → test x ≡ true → list_any test xs ≡ true

-- none of the elements passes
pub none_where : {A : Type 0} (test : A → Bool) (xs : List A) → ((x : A) → IsOneOf xs x → test x ≡ false) → filter test xs ≡ []
none_where test [] h = refl
none_where {A} test (x ∷ xs) h =
    let rest = none_where test xs (λ y of. h y (λ t passes. or_right (t x) (list_any t xs) (of t passes))) in
    (λ i. cond (h x (λ t passes. or_left (t x) (list_any t xs) passes) i) (x ∷ filter test xs) (rest i))

-- ---- elements

-- an element that passes
pub passing : {A : Type 0} (p : A → Bool) (xs : List A) → list_any p xs ≡ true → (x : A) × Contains xs x × (p x ≡ true)
passing p [] h = cc
passing {A} p (x ∷ xs) h = by (p x) refl h (passing p xs)
  where
    by : (b : Bool) → p x ≡ b → (b || list_any p xs) ≡ true → (list_any p xs ≡ true → (y : A) × Contains xs y × (p y ≡ true)) → (y : A) × Contains (x ∷ xs) y × (p y ≡ true)
    by true here all more = (x, (0, omega arith, refl), here)
    by false here all more = let found = more all in (found.0, (suc found.1.0, omega arith, found.1.2), found.2)

-- one that passes is kept
pub Contains-filter : {A : Type 0} (p : A → Bool) (xs : List A) (x : A) → Contains xs x → p x ≡ true → Contains (filter p xs) x
Contains-filter p [] x c h = absurd (omega (arith, c.1))
Contains-filter {A} p (y ∷ xs) x (zero, within, is) h = subst (λ b. Contains (cond b (y ∷ filter p xs) (filter p xs)) x) (sym (ap p is ∙ h)) (0, omega arith, is)
Contains-filter {A} p (y ∷ xs) x (suc k, within, is) h = by (p y) (Contains-filter p xs x (k, omega arith, is) h)
  where
    by : (b : Bool) → Contains (filter p xs) x → Contains (cond b (y ∷ filter p xs) (filter p xs)) x
    by true c = Contains-append_right (y ∷ []) (filter p xs) x c
    by false c = c

-- one that is made of elements is made of one
pub from_one : {A B : Type 0} (f : A → List B) (xs : List A) (y : B) → Contains (flat_map f xs) y → (x : A) × Contains xs x × Contains (f x) y
from_one f [] y c = absurd (omega (arith, c.1))
from_one {A} {B} f (x ∷ xs) y c = by (Contains-append_cases (f x) (flat_map f xs) y c) (from_one f xs y)
  where
    by : Contains (f x) y ⊎ Contains (flat_map f xs) y → (Contains (flat_map f xs) y → (z : A) × Contains xs z × Contains (f z) y) → (z : A) × Contains (x ∷ xs) z × Contains (f z) y
    by (inl here) more = (x, (0, omega arith, refl), here)
    by (inr later) more = let found = more later in (found.0, Contains-append_right (x ∷ []) xs found.0 found.1, found.2)

-- an element at an index that passes
pub element-any : {A : Type 0} (p : A → Bool) (xs : List A) (i : ℕ) (x : A) → slice_get xs i ≡ Some x → p x ≡ true → list_any p xs ≡ true
element-any p [] i x at h = cc
element-any p (y ∷ xs) zero x at h = let same : y ≡ x = cc in or_left (p y) (list_any p xs) (ap p same ∙ h)
element-any p (y ∷ xs) (suc i) x at h = or_right (p y) (list_any p xs) (element-any p xs i x at h)
