-- The numbers of words, cut at zeros.
use Rattle.std.proofs.Common.{◌≡◌, ℕ, ◌+◌, Bool, true, false, if◌then◌else◌, ◌==◌, List, [], ◌∷◌, length, Option, Some, None, option_map, refl, sym, ap, ◌∙◌, subst, append-nil, arith}
use Rattle.std.specs.Prelude.{All, filter_map, is_some}
use Rattle.std.specs.List.{count_by, list_all, list_any, onto_first, slice_split}
use Rattle.std.proofs.lemmas.Bool.{eqb-true}
use Rattle.std.proofs.lemmas.List.{nil_from_length}
use Rattle.std.proofs.lemmas.List.Splits.{length-slice_split, slice_split_at, slice_split_none}
use Rattle.cudf_lrat.specs.Details.{is_clause}
use Rattle.cudf_lrat.specs.Lines.{cut_at_zeros, deletion_of, invalid, is_empty, signed_number, signed_numbers, skipped, step_of}
use Rattle.cudf_lrat.specs.Working.Numbers.{HasNoZero, after_numbers, with_piece}
use Rattle.cudf_lrat.specs.declared.reader.SignedNumber.{SignedNumber}

abbrev is_zero : SignedNumber → Bool
is_zero n = n.value == 0

numbers-none : (word : List ℕ) (rest : List (List ℕ)) → signed_number word ≡ None → signed_numbers (word ∷ rest) ≡ None
numbers-none word rest is = rw is refl

numbers-some : (word : List ℕ) (rest : List (List ℕ)) (n : SignedNumber) → signed_number word ≡ Some n → signed_numbers (word ∷ rest) ≡ option_map (λ ns. n ∷ ns) (signed_numbers rest)
numbers-some word rest n is = rw is (by (list_all (λ w. is_some (signed_number w)) rest) (filter_map signed_number rest))
  where
    by : (b : Bool) (ns : List SignedNumber) → (if b then Some (n ∷ ns) else None) ≡ option_map (λ ns. n ∷ ns) (if b then Some ns else None)
    by true ns = refl
    by false ns = refl

-- ---- after numbers that were read, a zero or the end

module _ (read : List SignedNumber) (text rest : List (List ℕ)) (so_far : after_numbers read (signed_numbers rest) ≡ signed_numbers text) (some : All (λ n. is_zero n ≡ false) read) where
  pub cut-zero : (word : List ℕ) (after : List (List ℕ)) (n : SignedNumber) → rest ≡ word ∷ after → Some n ≡ signed_number word → is_zero n ≡ true → cut_at_zeros text ≡ with_piece read (cut_at_zeros after)
  cut-zero word after n split is zero =
      ap (option_map (slice_split is_zero)) (sym so_far ∙ ap (after_numbers read) (ap signed_numbers split ∙ numbers-some word after n (sym is))) ∙ by (signed_numbers after)
    where
      by : (o : Option (List SignedNumber)) → option_map (slice_split is_zero) (after_numbers read (option_map (λ ns. n ∷ ns) o)) ≡ with_piece read (option_map (slice_split is_zero) o)
      by None = refl
      by (Some ns) = ap (λ (pieces : List (List SignedNumber)). Some pieces) (slice_split_at is_zero read n ns some zero)

  pub cut-end : rest ≡ [] → HasNoZero (cut_at_zeros text)
  cut-end end =
      let all : signed_numbers text ≡ Some read = sym so_far ∙ ap (λ ws. after_numbers read (signed_numbers ws)) end ∙ ap (λ (xs : List SignedNumber). Some xs) (append-nil read) in
      let pieces : cut_at_zeros text ≡ Some (read ∷ []) = ap (option_map (slice_split is_zero)) all ∙ ap (λ (ps : List (List SignedNumber)). Some ps) (slice_split_none is_zero read some) in
      subst HasNoZero (sym pieces) tt

-- ---- the words after the last zero

-- not an empty piece alone
abbrev IsMore : Option (List (List SignedNumber)) → Type 0
IsMore (Some ([] ∷ [])) = ⊥
IsMore _ = Unit {0}

pieces-more : (n : SignedNumber) (ns : List SignedNumber) → IsMore (Some (slice_split is_zero (n ∷ ns)))
pieces-more n ns = by (is_zero n) (slice_split is_zero ns) (length-slice_split is_zero ns)
  where
    by : (b : Bool) (pieces : List (List SignedNumber)) → length pieces ≡ count_by is_zero ns + 1 → IsMore (Some (if b then [] ∷ pieces else onto_first n pieces))
    by true [] count = absurd (omega arith)
    by true (piece ∷ pieces) count = tt
    by false [] count = tt
    by false (piece ∷ pieces) count = tt

some-more : (n : SignedNumber) (o : Option (List SignedNumber)) → IsMore (option_map (slice_split is_zero) (option_map (λ ns. n ∷ ns) o))
some-more n None = tt
some-more n (Some ns) = pieces-more n ns

cut-more : (words : List (List ℕ)) → is_empty words ≡ false → IsMore (cut_at_zeros words)
cut-more [] some = cc
cut-more (word ∷ rest) some = by (signed_number word) refl
  where
    by : (o : Option SignedNumber) → signed_number word ≡ o → IsMore (cut_at_zeros (word ∷ rest))
    by None is = subst (λ o. IsMore (option_map (slice_split is_zero) o)) (sym (numbers-none word rest is)) tt
    by (Some n) is = subst (λ o. IsMore (option_map (slice_split is_zero) o)) (sym (numbers-some word rest n is)) (some-more n (signed_numbers rest))

step_more : (number : ℕ) (literals hints : List SignedNumber) (o : Option (List (List SignedNumber))) → IsMore o → step_of number (with_piece literals (with_piece hints o)) ≡ invalid
step_more number literals hints None h = refl
step_more number literals hints (Some []) h = refl
step_more number literals hints (Some ([] ∷ [])) h = absurd h
step_more number literals hints (Some ([] ∷ next ∷ pieces)) h = refl
step_more number literals hints (Some ((n ∷ ns) ∷ pieces)) h = refl

deletion_more : (numbers : List SignedNumber) (o : Option (List (List SignedNumber))) → IsMore o → deletion_of (with_piece numbers o) ≡ invalid
deletion_more numbers None h = refl
deletion_more numbers (Some []) h = refl
deletion_more numbers (Some ([] ∷ [])) h = absurd h
deletion_more numbers (Some ([] ∷ next ∷ pieces)) h = refl
deletion_more numbers (Some ((n ∷ ns) ∷ pieces)) h = refl

pub step-goes_on : (number : ℕ) (literals hints : List SignedNumber) (words rest after : List (List ℕ)) → cut_at_zeros words ≡ with_piece literals (cut_at_zeros rest) → cut_at_zeros rest ≡ with_piece hints (cut_at_zeros after) → is_empty after ≡ false
    → step_of number (cut_at_zeros words) ≡ invalid
step-goes_on number literals hints words rest after first second more =
    ap (step_of number) (first ∙ ap (with_piece literals) second) ∙ step_more number literals hints (cut_at_zeros after) (cut-more after more)

pub deletion-ended : (numbers : List SignedNumber) (words rest : List (List ℕ)) (ended : Bool) → cut_at_zeros words ≡ with_piece numbers (cut_at_zeros rest) → list_any (λ n. n.negative) numbers ≡ false → ended ≡ is_empty rest
    → deletion_of (cut_at_zeros words) ≡ (if ended then skipped else invalid)
deletion-ended numbers words rest true first plain is =
    ap deletion_of (first ∙ ap (λ ws. with_piece numbers (cut_at_zeros ws)) (nil_from_length rest (eqb-true (length rest) 0 (sym is)))) ∙ ap (λ (b : Bool). if b then invalid else skipped) plain
deletion-ended numbers words rest false first plain is = ap deletion_of first ∙ deletion_more numbers (cut_at_zeros rest) (cut-more rest (sym is))

-- ---- a clause

clause_more : (literals : List SignedNumber) (o : Option (List (List SignedNumber))) → IsMore o → is_clause (with_piece literals o) ≡ false
clause_more literals None h = refl
clause_more literals (Some []) h = refl
clause_more literals (Some ([] ∷ [])) h = absurd h
clause_more literals (Some ([] ∷ next ∷ pieces)) h = refl
clause_more literals (Some ((n ∷ ns) ∷ pieces)) h = refl

pub clause-ended : (literals : List SignedNumber) (words rest : List (List ℕ)) (ended : Bool) → cut_at_zeros words ≡ with_piece literals (cut_at_zeros rest) → ended ≡ is_empty rest
    → ended ≡ is_clause (cut_at_zeros words)
clause-ended literals words rest true first is =
    sym (ap is_clause (first ∙ ap (λ ws. with_piece literals (cut_at_zeros ws)) (nil_from_length rest (eqb-true (length rest) 0 (sym is)))))
clause-ended literals words rest false first is = sym (ap is_clause first ∙ clause_more literals (cut_at_zeros rest) (cut-more rest (sym is)))
