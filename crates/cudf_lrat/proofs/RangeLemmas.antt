-- Numbers in a row.
use Rattle.std.proofs.Common.{◌≡◌, ℕ, zero, suc, ◌+◌, ◌<◌, ◌≤◌, Bool, true, false, eqb, List, [], ◌∷◌, ◌++◌, length, get_or, refl, append-nil, sym, ap, ◌∙◌, inl, inr, arith}
use Rattle.std.specs.Prelude.{All, filter}
use Rattle.std.specs.List.{range_with_len}
use Rattle.std.proofs.lemmas.Bool.{cases_Bool, cases_eq, eq-eqb, or_left, or_right}
use Rattle.std.proofs.lemmas.List.Elements.{All-head, All-tail, filter-append}
use Rattle.cudf_lrat.specs.Answers.{is_listed}

pub in_range : (a count n : ℕ) → a ≤ n → n < a + count → is_listed n (range_with_len a count) ≡ true
in_range a zero n low high = absurd (omega arith)
in_range a (suc count) n low high =
    elim (cases_eq a n) [
      | inl here ↦ or_left (eqb a n) (is_listed n (range_with_len (a + 1) count)) (eq-eqb a n here)
      | inr later ↦ or_right (eqb a n) (is_listed n (range_with_len (a + 1) count)) (in_range (a + 1) count n (omega arith) (omega arith))
    ]

range_at : (a count k d : ℕ) → k < length (range_with_len a (suc count)) → All (λ n. (a + 1 ≤ n) × (n < a + 1 + count)) (range_with_len (a + 1) count) → (a ≤ get_or (range_with_len a (suc count)) k d) × (get_or (range_with_len a (suc count)) k d < a + suc count)
range_at a count zero d lt rest = (omega arith, omega arith)
range_at a count (suc k) d lt rest = let r = rest k d (omega arith) in (omega arith, omega arith)

pub range_within : (a count : ℕ) → All (λ n. (a ≤ n) × (n < a + count)) (range_with_len a count)
range_within a zero = λ k d lt. absurd (omega arith)
range_within a (suc count) = λ k d lt. range_at a count k d lt (range_within (a + 1) count)

range-push : (a count : ℕ) → range_with_len a (suc count) ≡ range_with_len a count ++ (a + count) ∷ []
range-push a zero = let sum : a ≡ a + 0 = omega arith in ap (λ n. n ∷ []) sum
range-push a (suc count) =
    let rest : range_with_len (a + 1) (suc count) ≡ range_with_len (a + 1) count ++ (a + 1 + count) ∷ [] = range-push (a + 1) count in
    let sum : a + 1 + count ≡ a + suc count = omega arith in
    ap (λ ns. a ∷ ns) rest ∙ ap (λ n. (a ∷ range_with_len (a + 1) count) ++ n ∷ []) sum

-- one more number, where it passes and where it doesn't
pub chosen-yes : (p : ℕ → Bool) (count next : ℕ) → next ≡ 1 + count → p next ≡ true → filter p (range_with_len 1 (count + 1)) ≡ filter p (range_with_len 1 count) ++ next ∷ []
chosen-yes p count next is holds =
    let more : count + 1 ≡ suc count = omega arith in
    let here : p (1 + count) ≡ true = sym (ap p is) ∙ holds in
    ap (λ n. filter p (range_with_len 1 n)) more ∙ ap (filter p) (range-push 1 count) ∙ filter-append p (range_with_len 1 count) ((1 + count) ∷ []) ∙ rw here (ap (λ n. filter p (range_with_len 1 count) ++ n ∷ []) (sym is))

pub chosen-no : (p : ℕ → Bool) (count next : ℕ) → next ≡ 1 + count → p next ≡ false → filter p (range_with_len 1 (count + 1)) ≡ filter p (range_with_len 1 count)
chosen-no p count next is fails =
    let more : count + 1 ≡ suc count = omega arith in
    let here : p (1 + count) ≡ false = sym (ap p is) ∙ fails in
    ap (λ n. filter p (range_with_len 1 n)) more ∙ ap (filter p) (range-push 1 count) ∙ filter-append p (range_with_len 1 count) ((1 + count) ∷ []) ∙ rw here (append-nil (filter p (range_with_len 1 count)))

-- tests that agree at each element
pub filter-agree : (p q : ℕ → Bool) (xs : List ℕ) → All (λ x. p x ≡ q x) xs → filter p xs ≡ filter q xs
filter-agree p q [] same = refl
filter-agree p q (x ∷ xs) same =
    let here : p x ≡ q x = All-head (λ x. p x ≡ q x) x xs same in
    let rest : filter p xs ≡ filter q xs = filter-agree p q xs (All-tail (λ x. p x ≡ q x) x xs same) in
    elim (cases_Bool (q x)) [
      | inl holds ↦ let also : p x ≡ true = here ∙ holds in rw (holds, also) (ap (λ ys. x ∷ ys) rest)
      | inr fails ↦ let also : p x ≡ false = here ∙ fails in rw (fails, also) rest
    ]
