-- A line is known by the characters at its front: a name line, and one that begins with a blank.
use Rattle.std.proofs.Common.{◌≡◌, ℕ, zero, suc, ◌+◌, ◌-◌, ◌<◌, ◌≤◌, ◌==◌, Bool, true, false, nat_lt, List, [], ◌∷◌, ◌++◌, length, take, drop, reverse, position, unwrap_or, refl, sym, ap, subst, ◌∙◌, inl, inr, arith, if◌then◌else◌}
use Rattle.std.specs.Prelude.{slice_index}
use Rattle.std.specs.List.{list_all, prefix_len, suffix_len, position_or_len, slice_get}
use Rattle.std.specs.Char.{is_ascii_alphabetic}
use Rattle.std.proofs.Math.Bool.{and-false}
use Rattle.std.proofs.lemmas.List.{length-reverse, length-take, reverse-append}
use Rattle.std.proofs.lemmas.Bool.{cases_Bool, true≢false, and_parts, eqb-true, false_from_ne_true, lt-ltb, ltb-true}
use Rattle.cudf_text.specs.Chars.{is_blank, is_blank_text, is_ident_char, is_ident, trim}
use Rattle.cudf_text.specs.Lines.{blank, continuation, named, faulty, class, class_by_colon}
use Rattle.cudf_text.specs.Working.LineView.{is_colon, ends_name}

abbrev first_colon : List ℕ → ℕ
first_colon line = position_or_len is_colon line

abbrev name_end : List ℕ → ℕ
name_end line = prefix_len is_ident_char line

ident_no_colon : (b : ℕ) → is_ident_char b ≡ true → is_colon b ≡ false
ident_no_colon b is = false_from_ne_true (is_colon b) (λ h. true≢false (sym is ∙ ap is_ident_char (eqb-true b 58 h)))

one_more : (n : ℕ) → 1 + n ≡ suc n
one_more n = omega arith

-- a colon after the characters at the front is the first, and only they come before it
record Found (line : List ℕ) : Type 0 where
  first : first_colon line ≡ name_end line
  all : list_all is_ident_char (take (first_colon line) line) ≡ true
  inside : first_colon line < length line

found : (line : List ℕ) → is_colon (slice_index line (name_end line)) ≡ true → Found line
found [] h = absurd cc
found (b ∷ line) h = by (is_ident_char b) refl (found line)
  where
    by : (x : Bool) → is_ident_char b ≡ x → (is_colon (slice_index line (name_end line)) ≡ true → Found line) → Found (b ∷ line)
    by true e rest =
        let r : Found line = rest (rw (e, one_more (name_end line)) at h) in
        let differs : is_colon b ≡ false = ident_no_colon b e in
        record {
          first = rw (e, differs) (ap (λ n. 1 + n) r.first);
          all = rw (differs, one_more (first_colon line)) (rw e r.all);
          inside = rw differs (omega (arith, r.inside));
        }
    by false e rest =
        let colon : is_colon b ≡ true = rw e at h in
        record { first = rw (e, colon) refl; all = rw colon refl; inside = rw colon (omega arith) }

-- where another character is there, the text before the first colon has it
lost : (line : List ℕ) → is_colon (slice_index line (name_end line)) ≡ false → first_colon line < length line → list_all is_ident_char (take (first_colon line) line) ≡ false
lost [] h inside = absurd (omega (arith, inside))
lost (b ∷ line) h inside = by (is_ident_char b) refl (lost line)
  where
    by : (x : Bool) → is_ident_char b ≡ x
        → (is_colon (slice_index line (name_end line)) ≡ false → first_colon line < length line → list_all is_ident_char (take (first_colon line) line) ≡ false)
        → list_all is_ident_char (take (first_colon (b ∷ line)) (b ∷ line)) ≡ false
    by true e rest =
        let differs : is_colon b ≡ false = ident_no_colon b e in
        let later : 1 + first_colon line < length (b ∷ line) = rw differs at inside in
        rw (differs, one_more (first_colon line)) (rw e (rest (rw (e, one_more (name_end line)) at h) (omega (arith, later))))
    by false e rest =
        let differs : is_colon b ≡ false = rw e at h in
        rw (differs, one_more (first_colon line)) (rw e refl)

is_ident-from : (text : List ℕ) → is_ascii_alphabetic (slice_index text 0) ≡ true → list_all is_ident_char text ≡ true → is_ident text ≡ true
unfolding is_ident
is_ident-from text letter all = rw (letter, all) refl

no_ident-all : (text : List ℕ) → list_all is_ident_char text ≡ false → is_ident text ≡ false
unfolding is_ident
no_ident-all text all = rw all (and-false (is_ascii_alphabetic (slice_index text 0)))

no_ident-first : (line : List ℕ) (n : ℕ) → is_ascii_alphabetic (slice_index line 0) ≡ false → is_ident (take n line) ≡ false
unfolding is_ident
no_ident-first line zero other = refl
no_ident-first [] (suc n) other = refl
no_ident-first (b ∷ line) (suc n) other = rw other refl

first_letter : (line : List ℕ) (n : ℕ) → is_colon (slice_index line n) ≡ true → is_ascii_alphabetic (slice_index line 0) ≡ true → is_ascii_alphabetic (slice_index (take n line) 0) ≡ true
first_letter line zero colon letter = absurd (true≢false (sym letter ∙ ap is_ascii_alphabetic (eqb-true (slice_index line 0) 58 colon)))
first_letter [] (suc n) colon letter = absurd cc
first_letter (b ∷ line) (suc n) colon letter = letter

-- the class of a line whose first colon is here
class_at : (line : List ℕ) (n : ℕ) (ident : Bool) → first_colon line ≡ n → first_colon line < length line → is_ident (take n line) ≡ ident
    → class_by_colon line (position is_colon line) ≡ (if ident then named (take n line) (trim (drop (n + 1) line)) else faulty)
class_at line n ident at inside is = rw (lt-ltb (first_colon line) (length line) inside, at, is) refl

pub name_class : (line : List ℕ) (n : ℕ) → n ≡ name_end line → ends_name line n ≡ true
    → named (take n line) (trim (drop (n + 1) line)) ≡ class_by_colon line (position is_colon line)
name_class line n is h =
    let each = and_parts (is_colon (slice_index line n)) (is_ascii_alphabetic (slice_index line 0)) h in
    let f : Found line = found line (rw is at each.0) in
    let at : first_colon line ≡ n = f.first ∙ sym is in
    sym (class_at line n true at f.inside (is_ident-from (take n line) (first_letter line n each.0 each.1) (rw at at f.all)))

pub other_class : (line : List ℕ) (n : ℕ) → n ≡ name_end line → ends_name line n ≡ false → faulty ≡ class_by_colon line (position is_colon line)
other_class line n is h = by (is_colon (slice_index line n)) refl
  where
    without : (x : Bool) → nat_lt (first_colon line) (length line) ≡ x → is_colon (slice_index line n) ≡ false → faulty ≡ class_by_colon line (position is_colon line)
    without true e other =
        let inside : first_colon line < length line = ltb-true _ _ e in
        sym (class_at line (first_colon line) false refl inside (no_ident-all (take (first_colon line) line) (lost line (rw is at other) inside)))
    without false e other = rw e refl

    by : (x : Bool) → is_colon (slice_index line n) ≡ x → faulty ≡ class_by_colon line (position is_colon line)
    by true e =
        let f : Found line = found line (rw is at e) in
        sym (class_at line n false (f.first ∙ sym is) f.inside (no_ident-first line n (rw e at h)))
    by false e = without (nat_lt (first_colon line) (length line)) refl e

stops_at : (b : ℕ) → is_blank b ≡ false → (text : List ℕ) → prefix_len is_blank (text ++ b ∷ []) ≤ length text
stops_at b e [] = rw e (omega arith)
stops_at b e (c ∷ text) = elim (cases_Bool (is_blank c)) [ inl other ↦ rw other (omega (arith, stops_at b e text)) | inr other ↦ rw other (omega arith) ]

-- blanks alone are trimmed to nothing, and no other text is
trim-empty : (text : List ℕ) → (length (trim text) == 0) ≡ is_blank_text text
trim-empty [] = refl
trim-empty (b ∷ text) =
    let left : is_blank b ≡ false → 0 < length (take (length (b ∷ text) - suffix_len is_blank (b ∷ text)) (b ∷ text)) = λ e.
    let behind : suffix_len is_blank (b ∷ text) ≤ length (reverse text) =
    subst (λ t. prefix_len is_blank t ≤ length (reverse text)) (sym (reverse-append (b ∷ []) text)) (stops_at b e (reverse text)) in
    omega (arith, behind, length-reverse text, length-take (length (b ∷ text) - suffix_len is_blank (b ∷ text)) (b ∷ text)) in
    elim (cases_Bool (is_blank b)) [
      | inl e ↦ rw (e, one_more (prefix_len is_blank text)) (trim-empty text)
      | inr e ↦ rw e (false_from_ne_true _ (λ none. omega (arith, left e, eqb-true _ 0 none)))
    ]

-- so what begins with a blank is blank or a continuation, and the empty line is as one of blanks
pub indented_class : (line : List ℕ) (first : ℕ) → first ≡ unwrap_or (slice_get line 0) 32 → (first ≡ 35 → ⊥) → is_blank first ≡ true
    → (if length (trim line) == 0 then blank else continuation (trim line)) ≡ class line
indented_class [] first at other indented = refl
indented_class (b ∷ line) first at other indented =
    rw (false_from_ne_true (b == 35) (λ h. other (at ∙ eqb-true b 35 h)), trim-empty (b ∷ line), rw at at indented) refl
