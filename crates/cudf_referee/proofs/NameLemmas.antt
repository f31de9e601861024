-- Names that occur once each, and what is kept of each of them.
use Rattle.std.proofs.Common.{◌≡◌, ◌≢◌, ℕ, Bool, true, false, not, cond, List, [], ◌∷◌, ◌++◌, filter, bytes_eq, refl, ap, sym, ◌∙◌, arith}
use Rattle.std.specs.List.{list_any, AllByRecursion, IsDistinct}
use Rattle.std.proofs.lemmas.Bool.{true≢false, false_from_ne_true}
use Rattle.std.proofs.lemmas.Cmp.{nat_list_eq_equiv}
use Rattle.std.proofs.lemmas.List.{append-nil}
use Rattle.std.proofs.lemmas.List.Elements.{filter-append}
use Rattle.std.proofs.lemmas.List.Kept.{AllPairs-filter}
use Rattle.std.proofs.lemmas.Map.Made.{AllPairs-from_IsDistinct, IsDistinct-from_AllPairs}
use Rattle.std.proofs.lemmas.Map.Views.{any-filter_same}
use Rattle.std.proofs.lemmas.Slice.Eq.{bytes_eq-Decides}
use Rattle.indexmap.specs.IndexSet.{insert_key}
use Rattle.cudf_referee.specs.Criteria.{each_once}
use Rattle.std.proofs.lemmas.Grind.{common_steps}

abbrev Name : Type 0
Name = List ℕ

pub same_text : (a b : Name) → bytes_eq a b ≡ true → a ≡ b
same_text a b e = (bytes_eq-Decides a b).0 e

pub text_same : (a b : Name) → a ≡ b → bytes_eq a b ≡ true
text_same a b e = (bytes_eq-Decides a b).1 e

-- texts differ either way round
pub other_way : (a b : Name) → bytes_eq a b ≡ false → bytes_eq b a ≡ false
other_way a b e = false_from_ne_true (bytes_eq b a) (λ h. true≢false (sym (text_same a b (sym (same_text b a h))) ∙ e))

-- ---- each once

any_filtered : (x y : Name) (zs : List Name) → bytes_eq x y ≡ false → list_any (bytes_eq x) (filter (λ o. not (bytes_eq y o)) zs) ≡ list_any (bytes_eq x) zs
any_filtered x y zs other = any-filter_same (bytes_eq x) (λ o. not (bytes_eq y o)) true (λ k e. ap not (ap (bytes_eq y) (sym (same_text x k e)) ∙ other_way x y other)) zs

-- one name more
pub once_push : (xs : List Name) (x : Name) → each_once (xs ++ x ∷ []) ≡ insert_key bytes_eq (each_once xs) x
once_push [] x = refl
once_push (y ∷ ys) x =
    grind (arith, common_steps, once_push ys x, filter-append (λ o. not (bytes_eq y o)) (each_once ys) (x ∷ []), any_filtered x y (each_once ys), same_text x y, text_same y x, append-nil (filter (λ o. not (bytes_eq y o)) (each_once ys)), nat_list_eq_equiv.symm x y)

-- no name occurs twice
distinct-filter : (t : Name → Bool) (xs : List Name) → IsDistinct bytes_eq xs → IsDistinct bytes_eq (filter t xs)
distinct-filter t xs apart = IsDistinct-from_AllPairs bytes_eq-Decides (filter t xs) (AllPairs-filter (λ x y. x ≢ y) t xs (AllPairs-from_IsDistinct bytes_eq-Decides xs apart))

others : (x : Name) (ys : List Name) → AllByRecursion (λ y. bytes_eq x y ≡ false) (filter (λ o. not (bytes_eq x o)) ys)
others x [] = tt
others x (y ∷ ys) = by (bytes_eq x y) refl (others x ys)
  where
    less : List Name
    less = filter (λ o. not (bytes_eq x o)) ys

    by : (b : Bool) → bytes_eq x y ≡ b → AllByRecursion (λ y. bytes_eq x y ≡ false) less → AllByRecursion (λ y. bytes_eq x y ≡ false) (cond (not b) (y ∷ less) less)
    by true e rest = rest
    by false e rest = (e, rest)

pub distinct-once : (xs : List Name) → IsDistinct bytes_eq (each_once xs)
unfolding IsDistinct
distinct-once [] = tt
distinct-once (x ∷ xs) = (others x (each_once xs), distinct-filter (λ o. not (bytes_eq x o)) (each_once xs) (distinct-once xs))
