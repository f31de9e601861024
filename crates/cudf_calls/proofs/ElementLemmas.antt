-- What holds of the first elements of a list, and of one more.
use Rattle.std.proofs.Common.{◌≡◌, ◌∙◌, ◌+◌, ◌<◌, ◌++◌, inl, inr, ℕ, zero, suc, List, [], ◌∷◌, length, map, take, get_or, ap, sym, append_assoc, arith}
use Rattle.std.proofs.lemmas.List.{map_more}
use Rattle.std.proofs.lemmas.List.Elements.{All-nil, All-cons, All-head, All-tail}
use Rattle.std.specs.List.{All}
use Rattle.cudf_device.specs.Readers.{OfOne}

module _ {A B : Type 0} (P : B → Type 0) (f : A → B) where
  -- it holds of one of them
  pub one_at : (xs : List A) (i : ℕ) (d : A) → i < length xs → P (f (get_or xs i d)) → OfOne P (map f xs)
  one_at [] i d inside is = absurd (omega (arith, inside))
  one_at (x ∷ xs) zero d inside is = inl is
  one_at (x ∷ xs) (suc i) d inside is = inr (one_at xs i d (omega (arith, inside)) is)

  -- it holds of one more
  pub all_next : (xs : List A) (i : ℕ) (d : A) → i < length xs → All P (map f (take i xs)) → P (f (get_or xs i d)) → All P (map f (take (suc i) xs))
  all_next [] i d inside all is = absurd (omega (arith, inside))
  all_next (x ∷ xs) zero d inside all is = All-cons P (f x) [] is (All-nil P)
  all_next (x ∷ xs) (suc i) d inside all is =
      All-cons P (f x) (map f (take (suc i) xs)) (All-head P (f x) (map f (take i xs)) all) (all_next xs i d (omega (arith, inside)) (All-tail P (f x) (map f (take i xs)) all) is)

  -- it holds of each of them
  pub all_at : (xs : List A) (i : ℕ) (d : A) → i < length xs → All P (map f xs) → P (f (get_or xs i d))
  all_at [] i d inside all = absurd (omega (arith, inside))
  all_at (x ∷ xs) zero d inside all = All-head P (f x) (map f xs) all
  all_at (x ∷ xs) (suc i) d inside all = all_at xs i d (omega (arith, inside)) (All-tail P (f x) (map f xs) all)

-- one more was appended, after what was there at first
pub one_more : {A B : Type 0} (f : A → B) (xs : List A) (i : ℕ) (d : A) (first line line' : List B) → i < length xs
    → line ≡ first ++ map f (take i xs) → line' ≡ line ++ f (get_or xs i d) ∷ [] → line' ≡ first ++ map f (take (i + 1) xs)
one_more f xs i d first line line' inside so_far pushed =
    pushed
    ∙ ap (λ l. l ++ f (get_or xs i d) ∷ []) so_far
    ∙ append_assoc first (map f (take i xs)) (f (get_or xs i d) ∷ [])
    ∙ ap (λ l. first ++ l) (sym (map_more f xs i d inside))
