-- The first word of a line.
use Rattle.std.proofs.Common.{◌≡◌, ℕ, ◌+◌, ◌<◌, Bool, false, not, ◌==◌, eqb, List, [], ◌∷◌, length, take, drop, refl, ap, ◌∙◌, inl, inr, arith, one-add}
use Rattle.std.specs.Prelude.{filter}
use Rattle.std.specs.List.{position_or_len, prefix_len, slice_split}
use Rattle.std.proofs.lemmas.Bool.{cases_Bool, ne_eqb}
use Rattle.cudf_text.specs.Chars.{is_blank}
use Rattle.cudf_lrat.specs.Lines.{words_of}

-- the parts after the first one
abbrev others : (ℕ → Bool) → List ℕ → List (List ℕ)
others p [] = []
others p (x ∷ xs) = slice_split p xs

split-first : (p : ℕ → Bool) (xs : List ℕ) → slice_split p xs ≡ take (position_or_len p xs) xs ∷ others p (drop (position_or_len p xs) xs)
split-first p [] = refl
split-first p (x ∷ xs) =
    elim (cases_Bool (p x)) [
      | inl holds ↦ rw holds refl
      | inr fails ↦ rw (fails, one-add, split-first p xs) refl
    ]

-- blanks at the front don't count
pub words_drop : (text : List ℕ) → words_of (drop (prefix_len is_blank text) text) ≡ words_of text
words_drop [] = refl
words_drop (b ∷ bs) =
    elim (cases_Bool (is_blank b)) [
      | inl holds ↦ rw (holds, one-add) (words_drop bs)
      | inr fails ↦ rw fails (rw fails refl)
    ]

-- the rest begins with a blank, or is empty
words-others : (p : ℕ → Bool) (text : List ℕ) → position_or_len p text ≡ 0 → filter (λ word. not (length word == 0)) (others p text) ≡ filter (λ word. not (length word == 0)) (slice_split p text)
words-others p [] h = refl
words-others p (x ∷ xs) h =
    elim (cases_Bool (p x)) [
      | inl holds ↦ rw holds refl
      | inr fails ↦ absurd (let bad : 1 + position_or_len p xs ≡ 0 = rw fails at h in omega arith)
    ]

rest-blank : (p : ℕ → Bool) (text : List ℕ) → position_or_len p (drop (position_or_len p text) text) ≡ 0
rest-blank p [] = refl
rest-blank p (x ∷ xs) =
    elim (cases_Bool (p x)) [
      | inl holds ↦ rw holds (rw holds refl)
      | inr fails ↦ rw (fails, one-add) (rest-blank p xs)
    ]

pub words_first : (text : List ℕ) (n : ℕ) → n ≡ position_or_len is_blank text → 0 < length (take n text) → words_of text ≡ take n text ∷ words_of (drop n text)
words_first text n is some =
    let split : slice_split is_blank text ≡ take n text ∷ others is_blank (drop n text) = rw is (split-first is_blank text) in
    let word : eqb (length (take n text)) 0 ≡ false = ne_eqb (length (take n text)) 0 (λ e. omega arith) in
    let rest : filter (λ word. not (length word == 0)) (others is_blank (drop n text)) ≡ words_of (drop n text) = words-others is_blank (drop n text) (rw is (rest-blank is_blank text)) in
    ap (filter (λ word. not (length word == 0))) split ∙ rw word (ap (λ ws. take n text ∷ ws) rest)

pub words_none : (text : List ℕ) → position_or_len is_blank (drop (prefix_len is_blank text) text) ≡ 0 → words_of text ≡ []
words_none [] none = refl
words_none (b ∷ bs) none =
    elim (cases_Bool (is_blank b)) [
      | inl blank ↦
          let rest : position_or_len is_blank (drop (prefix_len is_blank bs) bs) ≡ 0 = rw (blank, one-add) at none in
          rw blank (words_none bs rest)
      | inr other ↦ absurd (let bad : 1 + position_or_len is_blank bs ≡ 0 = rw (other, other) at none in omega arith)
    ]
