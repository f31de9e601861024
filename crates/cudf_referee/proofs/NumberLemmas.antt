-- Several numbers and lower numbers, by the least and the greatest of them.
use Rattle.std.proofs.Common.{◌≡◌, ℕ, ◌≤◌, Bool, true, false, not, ◌==◌, nat_lt, List, [], ◌∷◌, get_or, refl, ap, ◌∙◌, arith, eq-eqb, eqb-true, All, Contains, Some}
use Rattle.std.specs.List.{list_any}
use Rattle.std.proofs.lemmas.Bool.{le-ltb, ltb-false}
use Rattle.std.proofs.lemmas.List.Folds.{list_any_none}
use Rattle.std.proofs.lemmas.Map.Keys.{any_passes_from_place}
use Rattle.std.proofs.lemmas.Option.{slice_get-get_or}

-- one of them passes
list_any-true : {A : Type 0} (p : A → Bool) (xs : List A) (x : A) → Contains xs x → p x ≡ true → list_any p xs ≡ true
list_any-true p xs x here h = any_passes_from_place p xs here.0 x (slice_get-get_or xs here.0 x here.1 ∙ ap Some here.2) h

many_case : (ns : List ℕ) (a b : ℕ) (same : Bool) → (a == b) ≡ same → Contains ns a → All (λ m. a ≤ m) ns → Contains ns b → All (λ m. m ≤ b) ns
    → list_any (λ m. list_any (λ n. not (m == n)) ns) ns ≡ not same
many_case ns a b true is has_a least has_b greatest = list_any_none (λ m. list_any (λ n. not (m == n)) ns) ns
    (λ k d k_in. list_any_none (λ n. not (get_or ns k d == n)) ns (λ j e j_in. ap not (eq-eqb (get_or ns k d) (get_or ns j e)
    (omega (arith, least k d k_in, greatest k d k_in, least j e j_in, greatest j e j_in, eqb-true a b is)))))
many_case ns a b false is has_a least has_b greatest = list_any-true (λ m. list_any (λ n. not (m == n)) ns) ns a has_a
    (list_any-true (λ n. not (a == n)) ns b has_b (ap not is))

-- two numbers are different exactly where the least and the greatest are
pub many_by_ends : (ns : List ℕ) (a b : ℕ) → Contains ns a → All (λ m. a ≤ m) ns → Contains ns b → All (λ m. m ≤ b) ns
    → list_any (λ m. list_any (λ n. not (m == n)) ns) ns ≡ not (a == b)
many_by_ends ns a b has_a least has_b greatest = many_case ns a b (a == b) refl has_a least has_b greatest

lower_case : (before ns : List ℕ) (a b : ℕ) (is_lower : Bool) → nat_lt a b ≡ is_lower → Contains ns a → All (λ m. a ≤ m) ns → Contains before b → All (λ m. m ≤ b) before
    → list_any (λ n. list_any (λ m. nat_lt n m) before) ns ≡ is_lower
lower_case before ns a b true is has_a least has_b greatest = list_any-true (λ n. list_any (λ m. nat_lt n m) before) ns a has_a
    (list_any-true (λ m. nat_lt a m) before b has_b is)
lower_case before ns a b false is has_a least has_b greatest = list_any_none (λ n. list_any (λ m. nat_lt n m) before) ns
    (λ k d k_in. list_any_none (λ m. nat_lt (get_or ns k d) m) before (λ j e j_in. le-ltb (get_or ns k d) (get_or before j e)
    (omega (arith, least k d k_in, greatest j e j_in, ltb-false a b is))))

-- a number is below one of those before exactly where the least is below the greatest before
pub lower_by_ends : (before ns : List ℕ) (a b : ℕ) → Contains ns a → All (λ m. a ≤ m) ns → Contains before b → All (λ m. m ≤ b) before
    → list_any (λ n. list_any (λ m. nat_lt n m) before) ns ≡ nat_lt a b
lower_by_ends before ns a b has_a least has_b greatest = lower_case before ns a b (nat_lt a b) refl has_a least has_b greatest

-- where there was none before, none is lower
pub lower-none : (ns : List ℕ) → list_any (λ n. list_any (λ m. nat_lt n m) []) ns ≡ false
lower-none [] = refl
lower-none (n ∷ ns) = lower-none ns
