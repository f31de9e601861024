-- Two lists of one length as a list of pairs.
use Rattle.std.proofs.Common.{◌≡◌, ℕ, zero, suc, ◌<◌, List, [], ◌∷◌, ◌++◌, length, get_or, map, refl, ap, arith}
use Rattle.std.specs.Prelude.{Some, option_map, slice_get, zip}

pub length-zip : {A B : Type 0} (xs : List A) (ys : List B) → length xs ≡ length ys → length (zip xs ys) ≡ length ys
length-zip [] [] h = refl
length-zip [] (y ∷ ys) h = absurd (omega arith)
length-zip (x ∷ xs) [] h = absurd (omega arith)
length-zip (x ∷ xs) (y ∷ ys) h = ap suc (length-zip xs ys (omega arith))

pub zip-push : {A B : Type 0} (xs : List A) (ys : List B) (x : A) (y : B) → length xs ≡ length ys → zip (xs ++ x ∷ []) (ys ++ y ∷ []) ≡ zip xs ys ++ (x, y) ∷ []
zip-push [] [] x y h = refl
zip-push [] (z ∷ ys) x y h = absurd (omega arith)
zip-push (z ∷ xs) [] x y h = absurd (omega arith)
zip-push (w ∷ xs) (z ∷ ys) x y h = ap (λ ps. (w, z) ∷ ps) (zip-push xs ys x y (omega arith))

pub map-zip : {A B : Type 0} (xs : List A) (ys : List B) → length xs ≡ length ys → map (λ p. p.1) (zip xs ys) ≡ ys
map-zip [] [] h = refl
map-zip [] (y ∷ ys) h = absurd (omega arith)
map-zip (x ∷ xs) [] h = absurd (omega arith)
map-zip (x ∷ xs) (y ∷ ys) h = ap (λ zs. y ∷ zs) (map-zip xs ys (omega arith))

pub first_at : {A B C : Type 0} (f : A → C) (xs : List A) (ys : List B) (i : ℕ) (d : A) → length xs ≡ length ys → i < length ys → option_map (λ p. p.0) (slice_get (zip (map f xs) ys) i) ≡ Some (f (get_or xs i d))
first_at f [] [] i d h l = absurd (omega arith)
first_at f [] (y ∷ ys) i d h l = absurd (omega arith)
first_at f (x ∷ xs) [] i d h l = absurd (omega arith)
first_at f (x ∷ xs) (y ∷ ys) zero d h l = refl
first_at f (x ∷ xs) (y ∷ ys) (suc i) d h l = first_at f xs ys i d (omega arith) (omega arith)

pub second_at : {A B : Type 0} (xs : List A) (ys : List B) (i : ℕ) (d : B) → length xs ≡ length ys → i < length ys → option_map (λ p. p.1) (slice_get (zip xs ys) i) ≡ Some (get_or ys i d)
second_at [] [] i d h l = absurd (omega arith)
second_at [] (y ∷ ys) i d h l = absurd (omega arith)
second_at (x ∷ xs) [] i d h l = absurd (omega arith)
second_at (x ∷ xs) (y ∷ ys) zero d h l = refl
second_at (x ∷ xs) (y ∷ ys) (suc i) d h l = second_at xs ys i d (omega arith) (omega arith)
