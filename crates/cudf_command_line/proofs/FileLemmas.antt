-- Files in a row, and the words that name them.
use Rattle.std.proofs.Common.{◌≡◌, ◌+◌, ◌<◌, ℕ, Bool, zero, suc, true, false, cond, List, [], ◌∷◌, ◌++◌, map, take, length, get_or, count_by, bytes_eq, nat_lt, codes, Option, Some, None, is_some, refl, sym, ap, ◌∙◌, subst, arith}
use Rattle.std.proofs.lemmas.List.{map-id}
use Rattle.std.proofs.lemmas.Slice.Eq.{bytes_eq-Decides}
use Rattle.std.specs.List.{fold, AllZip}
use Rattle.std.specs.Option.{option_to_list}
use Rattle.cudf_command_line.specs.Command.{AreNamedBy, IsNamedBy, Refuses, Words, are_standard_twice, files_alone, is_standard, other_words}
use Rattle.cudf_command_line.specs.declared.command.FileName.{FileName}
use Rattle.cudf_command_line.specs.declared.command.FileName.TheVariants.{Path, Standard}
use Rattle.cudf_command_line.specs.declared.usage.Refusal.TheVariants.{Twice}

-- ---- one more

pub taken_more : {A B C : Type 0} (f : C → A) (R : A → B → Type 0) (cs : List C) (i : ℕ) (d : C) (ys : List B) (y : B)
    → i < length cs → AllZip R (map f (take i cs)) ys → R (f (get_or cs i d)) y → AllZip R (map f (take (i + 1) cs)) (ys ++ y ∷ [])
taken_more {A = A} {B = B} {C = C} f R cs i d ys y below m h = let next : i + 1 ≡ suc i = omega arith in subst (λ n. AllZip R (map f (take n cs)) (ys ++ y ∷ [])) (sym next) (go cs i ys below m h)
  where
    go : (cs : List C) (i : ℕ) (ys : List B) → i < length cs → AllZip R (map f (take i cs)) ys → R (f (get_or cs i d)) y → AllZip R (map f (take (suc i) cs)) (ys ++ y ∷ [])
    go [] i ys below m h = absurd (omega arith)
    go (c ∷ cs) zero [] below m h = (h, tt)
    go (c ∷ cs) zero (b ∷ ys) below m h = absurd m
    go (c ∷ cs) (suc i) [] below m h = absurd m
    go (c ∷ cs) (suc i) (b ∷ ys) below m h = (m.0, go cs i ys (omega arith) m.1 h)

pub next_taken : {A B : Type 0} (R : A → B → Type 0) (xs : List A) (i : ℕ) (d : A) (ys : List B) (y : B)
    → i < length xs → AllZip R (take i xs) ys → R (get_or xs i d) y → AllZip R (take (i + 1) xs) (ys ++ y ∷ [])
next_taken R xs i d ys y below m h =
    subst (λ zs. AllZip R zs (ys ++ y ∷ [])) (map-id (take (i + 1) xs))
    (taken_more (λ x. x) R xs i d ys y below (subst (λ zs. AllZip R zs ys) (sym (map-id (take i xs))) m) h)

-- one more at the end
pub one_more : {A B : Type 0} (R : A → B → Type 0) (xs : List A) (ys : List B) (x : A) (y : B) → AllZip R xs ys → R x y → AllZip R (xs ++ x ∷ []) (ys ++ y ∷ [])
one_more R [] [] x y m h = (h, tt)
one_more R [] (b ∷ ys) x y m h = absurd m
one_more R (a ∷ xs) [] x y m h = absurd m
one_more R (a ∷ xs) (b ∷ ys) x y m h = (m.0, one_more R xs ys x y m.1 h)

-- ---- standard input

differs : (a b : List ℕ) → (a ≡ b → ⊥) → bytes_eq a b ≡ false
differs a b no_match = go (bytes_eq a b) refl
  where
    go : (t : Bool) → bytes_eq a b ≡ t → bytes_eq a b ≡ false
    go true e = absurd (no_match ((bytes_eq-Decides a b).0 e))
    go false e = e

same_test : (word : List ℕ) (file : FileName) → IsNamedBy word file → is_standard file ≡ bytes_eq word (codes "-")
same_test word (Path path) h = sym (differs word (codes "-") h.1)
same_test word Standard h = sym (subst (λ w. bytes_eq w (codes "-") ≡ true) (sym h) refl)

abbrev one_if : Bool → ℕ
one_if b = cond b 1 0

same_count : (n : ℕ) (words : List (List ℕ)) (files : List FileName) → AreNamedBy words files
    → fold (λ m file. m + one_if (is_standard file)) n files ≡ fold (λ m word. m + one_if (bytes_eq word (codes "-"))) n words
same_count n [] [] m = refl
same_count n [] (file ∷ files) m = absurd m
same_count n (word ∷ words) [] m = absurd m
same_count n (word ∷ words) (file ∷ files) m =
    ap (λ b. fold (λ k (f : FileName). k + one_if (is_standard f)) (n + one_if b) files) (same_test word file m.0)
    ∙ same_count (n + one_if (bytes_eq word (codes "-"))) words files m.1

-- where two of the files are standard input, so say two of the words
named_twice : (words : List (List ℕ)) (files : List FileName) → AreNamedBy words files → nat_lt 1 (count_by is_standard files) ≡ true
    → nat_lt 1 (count_by (λ word. bytes_eq word (codes "-")) words) ≡ true
named_twice words files m twice = ap (nat_lt 1) (sym (same_count 0 words files m)) ∙ twice

-- the words are refused where two of the files are standard input
pub given_twice : (words : Words) (others : Option (List (List ℕ))) (better_than : Option (List ℕ)) (word : List ℕ) (file : FileName) (files : List FileName)
    → words.problem ≡ Some word → IsNamedBy word file → AreNamedBy (other_words others better_than) files → nat_lt 1 (count_by is_standard (file ∷ files)) ≡ true
    → Refuses (files_alone words others better_than) Twice
given_twice words others better_than word file files problem_is named names twice = (
  (None, tt),
  (None, tt),
  (None, tt),
  refl,
  refl,
  ap is_some problem_is,
  subst (λ problem. are_standard_twice (option_to_list problem ++ other_words others better_than) ≡ true) (sym problem_is)
      (named_twice (word ∷ other_words others better_than) (file ∷ files) (named, names) twice),
)
