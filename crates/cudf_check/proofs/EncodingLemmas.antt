-- Clauses by their indices and numbers.
use Rattle.std.proofs.Common.{◌≡◌, ◌<◌, ◌+◌, ◌-◌, ℕ, zero, suc, List, [], ◌∷◌, ◌++◌, length, take, get_or, Option, Some, None, slice_get, option_map, filter_map, ap, sym, ◌∙◌, arith}
use Rattle.std.proofs.lemmas.List.{take_more}
use Rattle.std.proofs.lemmas.List.Elements.{filter_map-append}
use Rattle.cudf_job.specs.Keys.{PlainKey}
use Rattle.cudf_lrat.specs.declared.cnf.Literal.{Literal}
use Rattle.cudf_cnf.specs.Cnf.{Keyed}
use Rattle.cudf_check.specs.Report.{needed}

-- an entry after the first one
pub later_entry : {A : Type 0} (x : A) (xs : List A) (n : ℕ) → 0 < n → slice_get (x ∷ xs) n ≡ slice_get xs (n - 1)
later_entry x xs zero h = absurd (omega arith)
later_entry x xs (suc n) h = let less : suc n - 1 ≡ n = omega arith in ap (slice_get xs) (sym less)

-- a clause by its two halves
pub halves : (clauses : List Keyed) (index : ℕ) (key : PlainKey) (literals : List Literal) → option_map (λ c. c.0) (slice_get clauses index) ≡ Some key
    → option_map (λ c. c.1) (slice_get clauses index) ≡ Some literals → slice_get clauses index ≡ Some (key, literals)
halves clauses index key literals first second = go (slice_get clauses index) first second
  where
    go : (found : Option Keyed) → option_map (λ c. c.0) found ≡ Some key → option_map (λ c. c.1) found ≡ Some literals → found ≡ Some (key, literals)
    go None first second = absurd (cc first)
    go (Some c) first second =
        let key_is : c.0 ≡ key = cc first in
        let literals_are : c.1 ≡ literals = cc second in
        ap (λ k. Some (k, c.1)) key_is ∙ ap (λ ls. Some (key, ls)) literals_are

-- one number more
pub needed-more : (clauses : List Keyed) (numbers : List ℕ) (i d : ℕ) (c : Keyed) → i < length numbers → slice_get clauses (get_or numbers i d - 1) ≡ Some c
    → needed clauses (take i numbers) ++ c ∷ [] ≡ needed clauses (take (i + 1) numbers)
needed-more clauses numbers i d c below is =
    ap (λ cs. needed clauses (take i numbers) ++ cs) (sym (one (slice_get clauses (get_or numbers i d - 1)) is))
    ∙ (sym (filter_map-append (λ n. slice_get clauses (n - 1)) (take i numbers) (get_or numbers i d ∷ [])) ∙ ap (needed clauses) (sym (take_more numbers i d below)))
  where
    one : (found : Option Keyed) → found ≡ Some c → filter_map (λ (o : Option Keyed). o) (found ∷ []) ≡ c ∷ []
    one None h = absurd (cc h)
    one (Some x) h = let same : x ≡ c = cc h in ap (λ y. y ∷ []) same
