-- One more entry of a list.
use Rattle.std.proofs.Common.{◌≡◌, ℕ, ◌+◌, List, [], ◌∷◌, ◌++◌, length, ap, ◌∙◌, arith}
use Rattle.std.specs.List.{enumerate_from}

-- a last element has the next number
pub enumerate-push : {A : Type 0} (n : ℕ) (xs : List A) (x : A) → enumerate_from n (xs ++ x ∷ []) ≡ enumerate_from n xs ++ (n + length xs, x) ∷ []
enumerate-push n [] x = λ i. (number i, x) ∷ []
  where
    number : n ≡ n + 0
    number = omega arith
enumerate-push n (y ∷ ys) x = ap (λ rest. (n, y) ∷ rest) (enumerate-push (n + 1) ys x ∙ ap (λ m. enumerate_from (n + 1) ys ++ (m, x) ∷ []) number)
  where
    number : (n + 1) + length ys ≡ n + length (y ∷ ys)
    number = omega arith
