-- Which places a list of packages with their places holds, where some of them were left out.
use Rattle.std.proofs.Common.{◌≡◌, ℕ, zero, suc, ◌+◌, ◌<◌, Bool, true, false, ◌&&◌, ◌||◌, ◌==◌, List, [], ◌∷◌, length, filter, cond, refl, ap, ◌∙◌, arith, eq-eqb}
use Rattle.std.specs.List.{list_any, list_all, enumerate_from}
use Rattle.cudf_referee.proofs.ListLemmas.{or_true}
use Rattle.std.proofs.lemmas.Grind.{common_steps}
use Rattle.std.proofs.lemmas.Bool.Decides.{nat_tests}

-- the list has this place
abbrev pub holds : {A : Type 0} → List (ℕ × A) → ℕ → Bool
holds xs n = list_any (λ p. p.0 == n) xs

-- of those that pass a test of their places, the places that are there and pass it
pub holds-filter : {A : Type 0} (t : ℕ → Bool) (xs : List (ℕ × A)) (n : ℕ) → holds (filter (λ p. t p.0) xs) n ≡ (t n && holds xs n)
holds-filter t [] n = elim (t n) as (λ b. false ≡ (b && false)) [ true ↦ refl | false ↦ refl ]
holds-filter t (x ∷ xs) n = grind (arith, common_steps, nat_tests, holds-filter t xs n)

weaker : {A : Type 0} (q r : A → Bool) (xs : List A) → list_all q xs ≡ true → list_all (λ x. r x || q x) xs ≡ true
weaker q r [] h = refl
weaker q r (x ∷ xs) h = grind (arith, common_steps, weaker q r xs)

-- a list holds its own places
pub holds-own : {A : Type 0} (xs : List (ℕ × A)) → list_all (λ p. holds xs p.0) xs ≡ true
holds-own [] = refl
holds-own (x ∷ xs) = (λ i. (eq-eqb x.0 x.0 refl i || holds xs x.0) && weaker (λ p. holds xs p.0) (λ p. x.0 == p.0) xs (holds-own xs) i)

-- a test of those whose places pass, where all places are there
pub list_all-held : {A : Type 0} (t : ℕ → Bool) (p : ℕ × A → Bool) (zs xs : List (ℕ × A)) → list_all (λ x. holds zs x.0) xs ≡ true
    → list_all (λ x. cond (t x.0 && holds zs x.0) (p x) true) xs ≡ list_all (λ x. cond (t x.0) (p x) true) xs
list_all-held t p zs [] h = refl
list_all-held t p zs (x ∷ xs) h = grind (arith, common_steps, list_all-held t p zs xs)

-- the place of an element is there
pub holds-enumerate : {A : Type 0} (n : ℕ) (xs : List A) (i : ℕ) → i < length xs → holds (enumerate_from n xs) (n + i) ≡ true
holds-enumerate n [] i h = absurd (omega arith)
holds-enumerate n (x ∷ xs) zero h = ap (λ b. b || holds (enumerate_from (n + 1) xs) (n + 0)) (eq-eqb n (n + 0) (omega arith))
holds-enumerate n (x ∷ xs) (suc i) h = ap (λ b. (n == n + suc i) || b) (ap (holds (enumerate_from (n + 1) xs)) number ∙ holds-enumerate (n + 1) xs i below) ∙ or_true (n == n + suc i)
  where
    number : n + suc i ≡ n + 1 + i
    number = omega arith

    below : i < length xs
    below = omega arith
