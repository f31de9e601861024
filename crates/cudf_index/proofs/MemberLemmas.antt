-- The packages that a status holds, one after the other.
use Rattle.std.proofs.Common.{◌≡◌, ℕ, ◌+◌, ◌<◌, Bool, true, false, cond, List, [], ◌∷◌, ◌++◌, length, get_or, take, map, ap, ◌∙◌, arith}
use Rattle.std.specs.Prelude.{filter}
use Rattle.std.specs.List.{enumerate_from}
use Rattle.std.proofs.lemmas.List.{append-nil, length-map, length-take-le, map_push, take_more}
use Rattle.std.proofs.lemmas.List.Elements.{filter-append}
use Rattle.cudf_problem.specs.Universe.{PlainPackage}
use Rattle.cudf_index.specs.Satisfaction.{Placed, members}

-- one element more, with the next number
enumerate-push : (n : ℕ) (xs : List PlainPackage) (x : PlainPackage) → enumerate_from n (xs ++ x ∷ []) ≡ enumerate_from n xs ++ (n + length xs, x) ∷ []
enumerate-push n [] x = ap (λ k. (k, x) ∷ []) (omega arith)
enumerate-push n (y ∷ ys) x =
    ap (λ rest. (n, y) ∷ rest) (enumerate-push (n + 1) ys x)
    ∙ ap (λ k. (n, y) ∷ (enumerate_from (n + 1) ys ++ (k, x) ∷ [])) (omega arith)

-- one package more, at the next place
members-push : (holds : ℕ → Bool) (xs : List PlainPackage) (x : PlainPackage) → members holds (xs ++ x ∷ []) ≡ members holds xs ++ cond (holds (1 + length xs)) ((1 + length xs, x) ∷ []) []
members-push holds xs x =
    ap (filter (λ (p : Placed). holds p.0)) (enumerate-push 1 xs x)
    ∙ filter-append (λ (p : Placed). holds p.0) (enumerate_from 1 xs) ((1 + length xs, x) ∷ [])

-- of elements as they are viewed
pub enumerate-more : {A : Type 0} (view : A → PlainPackage) (xs : List A) (i : ℕ) (d : A) → i < length xs
    → enumerate_from 1 (map view (take (i + 1) xs)) ≡ enumerate_from 1 (map view (take i xs)) ++ (i + 1, view (get_or xs i d)) ∷ []
enumerate-more view xs i d inside =
    let place : 1 + length (map view (take i xs)) ≡ i + 1 = omega (arith, length-map (take i xs) view, length-take-le i xs (omega arith)) in
    ap (λ ys. enumerate_from 1 (map view ys)) (take_more xs i d inside)
    ∙ ap (enumerate_from 1) (map_push view (take i xs) (get_or xs i d))
    ∙ enumerate-push 1 (map view (take i xs)) (view (get_or xs i d))
    ∙ ap (λ n. enumerate_from 1 (map view (take i xs)) ++ (n, view (get_or xs i d)) ∷ []) place

module _ {A : Type 0} (view : A → PlainPackage) (holds : ℕ → Bool) (xs : List A) (i : ℕ) (d : A) (inside : i < length xs) where
  members-more : members holds (map view (take (i + 1) xs)) ≡ members holds (map view (take i xs)) ++ cond (holds (i + 1)) ((i + 1, view (get_or xs i d)) ∷ []) []
  members-more =
      let place : 1 + length (map view (take i xs)) ≡ i + 1 = omega (arith, length-map (take i xs) view, length-take-le i xs (omega arith)) in
      ap (λ ys. members holds (map view ys)) (take_more xs i d inside)
      ∙ ap (members holds) (map_push view (take i xs) (get_or xs i d))
      ∙ members-push holds (map view (take i xs)) (view (get_or xs i d))
      ∙ ap (λ n. members holds (map view (take i xs)) ++ cond (holds n) ((n, view (get_or xs i d)) ∷ []) []) place

  pub members_kept : holds (i + 1) ≡ true → members holds (map view (take (i + 1) xs)) ≡ members holds (map view (take i xs)) ++ (i + 1, view (get_or xs i d)) ∷ []
  members_kept e = members-more ∙ ap (λ b. members holds (map view (take i xs)) ++ cond b ((i + 1, view (get_or xs i d)) ∷ []) []) e

  pub members_left_out : holds (i + 1) ≡ false → members holds (map view (take (i + 1) xs)) ≡ members holds (map view (take i xs))
  members_left_out e = members-more ∙ ap (λ b. members holds (map view (take i xs)) ++ cond b ((i + 1, view (get_or xs i d)) ∷ []) []) e ∙ append-nil (members holds (map view (take i xs)))
