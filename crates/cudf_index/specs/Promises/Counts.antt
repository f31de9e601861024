-- How many packages of a status answer, and how many pairs of them (own).
use Rattle.std.specs.Prelude.{ℕ, Bool, not, ◌==◌, ◌+◌, List, [], ◌∷◌}
use Rattle.std.specs.List.{count_by, list_any}
use Rattle.cudf_index.specs.Satisfaction.{Placed, numbers_of}

-- two packages, or one with itself, give two different numbers of the name
abbrev pub differ : List ℕ → Placed → Placed → Bool
differ name p q = list_any (λ m. list_any (λ n. not (m == n)) (numbers_of name (q ∷ []))) (numbers_of name (p ∷ []))

-- how many are related: each element with itself, and with each after it
abbrev pub count_pairs : {A : Type 0} → (A → A → Bool) → List A → ℕ
count_pairs r [] = 0
count_pairs r (x ∷ xs) = count_by (r x) (x ∷ xs) + count_pairs r xs
