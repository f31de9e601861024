-- Where the first line of a text ends.
use Rattle.std.proofs.Common.{◌≡◌, ℕ, ◌+◌, suc, ◌<◌, ◌≤◌, List, [], ◌∷◌, length, map, take, drop, Option, Some, None, unwrap_or, refl, sym, ◌∙◌, ap, inl, inr, min, arith}
use Rattle.std.specs.List.{position_or_len, before_first, onto_first}
use Rattle.std.proofs.lemmas.List.{take-take, get_or-take, length-take, take_min, drop_min}
use Rattle.std.proofs.lemmas.List.Sums.{position_or_len_is, prefix_len-le-length, fails_before_first, passes_at_first}
use Rattle.std.proofs.lemmas.Bool.{cases_Bool, false_from_ne_true}
use Rattle.memchr.specs.Find.{IsFirstByte, is_byte}
use Rattle.std.specs.Str.Lines.{strip_carriage_return}
use Rattle.cudf_text.specs.Lines.{is_lf, lines, raw_lines, line_text}

-- what a search for a byte gives
pub position_is : (text : List ℕ) (r : Option ℕ) → IsFirstByte (is_byte 10) text r → unwrap_or r (length text) ≡ position_or_len is_lf text
position_is text None h =
    sym (position_or_len_is is_lf text (length text) 0 (omega arith) (λ k l. false_from_ne_true _ (h k (omega arith) l)) (λ l. absurd (omega arith)))
position_is text (Some k) h =
    let l : k < length text = h.0.high in
    sym (position_or_len_is is_lf text k 0 (omega arith) (λ j l. false_from_ne_true _ (h.0.before j (omega arith) l)) (λ _. h.1))

-- the first line with its end goes through the first LF
onto_first_line : (b : ℕ) (bs : List ℕ) (n : ℕ) → raw_lines bs ≡ take (n + 1) bs ∷ raw_lines (drop (n + 1) bs)
    → onto_first b (raw_lines bs) ≡ take (1 + n + 1) (b ∷ bs) ∷ raw_lines (drop (1 + n + 1) (b ∷ bs))
onto_first_line b bs n h = let next : 1 + n + 1 ≡ suc (n + 1) = omega arith in rw next (ap (onto_first b) h)

raw_lines-first : (text : List ℕ) → 0 < length text → raw_lines text ≡ take (position_or_len is_lf text + 1) text ∷ raw_lines (drop (position_or_len is_lf text + 1) text)
raw_lines-first [] h = absurd (omega arith)
raw_lines-first (b ∷ []) h = elim (cases_Bool (is_lf b)) [ inl e ↦ rw e refl | inr e ↦ rw e refl ]
raw_lines-first (b ∷ c ∷ bs) h =
    elim (cases_Bool (is_lf b)) [
      | inl e ↦ rw e refl
      | inr e ↦ rw e (onto_first_line b (c ∷ bs) (position_or_len is_lf (c ∷ bs)) (raw_lines-first (c ∷ bs) (omega arith)))
    ]

-- and its text ends at that LF
before_first-line : (text : List ℕ) → before_first is_lf (take (position_or_len is_lf text + 1) text) ≡ take (position_or_len is_lf text) text
before_first-line text =
    let n : ℕ = position_or_len is_lf text in
    let fits : n ≤ length text = prefix_len-le-length _ text in
    let e : position_or_len is_lf (take (n + 1) text) ≡ n = position_or_len_is is_lf (take (n + 1) text) n 0
    (omega (arith, length-take (n + 1) text))
    (λ k l. rw (get_or-take (n + 1) text k 0 (omega arith)) (fails_before_first is_lf text k 0 l))
    (λ l. rw (get_or-take (n + 1) text n 0 (omega arith)) (passes_at_first is_lf text 0 (omega (arith, length-take (n + 1) text)))) in
    rw e (take-take n (n + 1) text (omega arith))

-- both, for a line that has at most the bytes of the text
raw_lines_next : (text : List ℕ) (n next : ℕ) → 0 < length text → n ≡ position_or_len is_lf text → next ≡ min (n + 1) (length text)
    → raw_lines text ≡ take next text ∷ raw_lines (drop next text)
raw_lines_next text n next some e is = rw (is, take_min (n + 1) text, drop_min (n + 1) text, e) (raw_lines-first text some)

line_text-next : (text : List ℕ) (n next m : ℕ) → n ≡ position_or_len is_lf text → next ≡ min (n + 1) (length text) → m ≤ length (take n text)
    → take m (take n text) ≡ strip_carriage_return (take n text) → take m text ≡ line_text (take next text)
line_text-next text n next m e is fits stripped =
    let b : before_first is_lf (take next text) ≡ take n text = rw (is, take_min (n + 1) text, e) (before_first-line text) in
    sym (take-take m n text (omega (arith, length-take n text))) ∙ stripped ∙ ap strip_carriage_return (sym b)

-- the first line and those after it
pub lines_next : (text : List ℕ) (n next m : ℕ) → 0 < length text → n ≡ position_or_len is_lf text → next ≡ min (n + 1) (length text) → m ≤ length (take n text)
    → take m (take n text) ≡ strip_carriage_return (take n text) → lines text ≡ take m text ∷ lines (drop next text)
lines_next text n next m some e is fits stripped =
    let first : raw_lines text ≡ take next text ∷ raw_lines (drop next text) = raw_lines_next text n next some e is in
    let line : take m text ≡ line_text (take next text) = line_text-next text n next m e is fits stripped in
    ap (map line_text) first ∙ ap (λ l. l ∷ lines (drop next text)) (sym line)
