-- How a text is shown, piece by piece.
use Rattle.std.proofs.Common.{◌≡◌, ◌+◌, ◌-◌, ◌<◌, ◌≤◌, ℕ, Bool, true, not, nat_lt, ◌==◌, suc, codes, List, [], ◌∷◌, ◌++◌, Option, Some, None, MatchOption, length, take, drop, refl, sym, ap, subst, ◌∙◌, append_assoc, take-append-drop, if◌then◌else◌, arith}
use Rattle.std.specs.Char.{encode_utf8, is_control}
use Rattle.std.specs.List.{flat_map}
use Rattle.std.specs.Str.{IsCharBoundary, IsUtf8, NoCharPasses, NonePass, chars, encode_utf8_all}
use Rattle.std.specs.Str.Pattern.{HasPassingCharAt}
use Rattle.std.proofs.lemmas.Grind.{flat_map-append}
use Rattle.std.proofs.lemmas.List.{length-append, length-drop, drop-drop, take_at, nil_from_length}
use Rattle.std.proofs.lemmas.Bool.{lt-ltb, le-ltb, ne_eqb}
use Rattle.std.proofs.lemmas.Bool.Decides.{nat_tests}
use Rattle.std.proofs.lemmas.Str.{chars_from_encodes, chars-append, chars_past_char, chars-nil, encodes-append, encodes-chars, encode_same, IsCharBoundary-at_seam, IsUtf8-past_char, IsUtf8-take, IsUtf8-drop, len_utf8_bounds, length-encode}
use Rattle.cudf_check.specs.Shown.{escaped, shown_char, shown, clipped}

-- no control character is among them
as_they_are : (cs : List ℕ) → NonePass is_control cs → flat_map shown_char cs ≡ encode_utf8_all cs
as_they_are [] none = refl
as_they_are (c ∷ cs) none = ap (λ b. (if b then escaped c else encode_utf8 c) ++ flat_map shown_char cs) none.0 ∙ ap (λ t. encode_utf8 c ++ t) (as_they_are cs none.1)

pub shown-plain : (bs : List ℕ) → IsUtf8 bs → NoCharPasses is_control bs → shown bs ≡ bs
unfolding shown
shown-plain bs utf8 none = ap (flat_map shown_char) (sym (chars_from_encodes none.0 bs utf8 none.1)) ∙ as_they_are none.0 none.2 ∙ none.1

-- one text after another
shown-append : (xs ys : List ℕ) → IsUtf8 xs → shown (xs ++ ys) ≡ shown xs ++ shown ys
unfolding shown
shown-append xs ys utf8 = ap (flat_map shown_char) (chars-append xs ys utf8) ∙ flat_map-append shown_char (chars xs) (chars ys)

-- a control character, and what follows it
shown-control : (bs rest : List ℕ) (c : ℕ) → IsUtf8 bs → bs ≡ encode_utf8 c ++ rest → is_control c ≡ true → shown bs ≡ escaped c ++ shown rest
unfolding shown
shown-control bs rest c utf8 is control =
    ap (flat_map shown_char) (chars_past_char bs rest c utf8 is) ∙ ap (λ b. (if b then escaped c else encode_utf8 c) ++ flat_map shown_char (chars rest)) control

-- a text without control characters, one, and what follows it
pub shown-parts : (text before rest after : List ℕ) (c : ℕ) → text ≡ before ++ rest → IsUtf8 before → NoCharPasses is_control before → IsUtf8 rest → rest ≡ encode_utf8 c ++ after
    → is_control c ≡ true → shown text ≡ before ++ escaped c ++ shown after
shown-parts text before rest after c whole utf8 none rest_utf8 is control =
    ap shown whole ∙ shown-append before rest utf8
    ∙ (λ k. shown-plain before utf8 none k ++ shown-control rest after c rest_utf8 is control k)
    ∙ sym (append_assoc before (escaped c) (shown after))

-- ---- where a search for a control character stops

-- the character there is one
pub is_found : (text after : List ℕ) (i j c : ℕ) → HasPassingCharAt is_control text i j → drop i text ≡ encode_utf8 c ++ after → is_control c ≡ true
is_found text after i j c (d, control, at) is = subst (λ x. is_control x ≡ true) (encode_same d c (drop j text) after (sym at.split ∙ is)).0 control

-- it stops before the end
pub is_inside : (text : List ℕ) (i j : ℕ) → HasPassingCharAt is_control text i j → length (drop i text) ≡ 0 → ⊥
is_inside text i j (d, control, at) none =
    let long = len_utf8_bounds d in
    omega (arith, ap length at.split, length-append (encode_utf8 d) (drop j text), length-encode d)

pub shown-found : (text before rest after : List ℕ) (i j c : ℕ) → IsUtf8 text → IsCharBoundary text i → NoCharPasses is_control (take i text) → HasPassingCharAt is_control text i j
    → before ≡ take i text → rest ≡ drop i text → rest ≡ encode_utf8 c ++ after → shown text ≡ before ++ escaped c ++ shown after
shown-found text before rest after i j c utf8 cut none found front back is =
    let here = sym back ∙ is in
    shown-parts text (take i text) (drop i text) after c (sym (take-append-drop i text)) (IsUtf8-take text i utf8 cut) none (IsUtf8-drop text i utf8 cut) here (is_found text after i j c found here)
    ∙ ap (λ t. t ++ escaped c ++ shown after) (sym front)

-- a control character's number fits a byte
pub control_below : (c : ℕ) → is_control c ≡ true → c < 256
control_below c control = grind (arith, nat_tests)

-- what is printed, and what is left to print
pub shown-next : (printed before escaped after left whole : List ℕ) → left ≡ before ++ escaped ++ after → printed ++ left ≡ whole → (printed ++ before ++ escaped) ++ after ≡ whole
shown-next printed before escaped after left whole parts so_far =
    append_assoc (printed ++ before) escaped after ∙ append_assoc printed before (escaped ++ after) ∙ ap (λ t. printed ++ t) (sym (append_assoc before escaped after) ∙ sym parts) ∙ so_far

-- ---- the front of a text, and what follows as many characters

-- one character more
pub behind_next : (text rest next : List ℕ) (i c : ℕ) → IsUtf8 rest → chars rest ≡ drop i (chars text) → rest ≡ encode_utf8 c ++ next → chars next ≡ drop (i + 1) (chars text)
behind_next text rest next i c utf8 is first = ap (drop 1) (sym (chars_past_char rest next c utf8 first) ∙ is) ∙ drop-drop 1 i (chars text)

-- or none more
pub behind_end : (text rest : List ℕ) (i : ℕ) → chars rest ≡ drop i (chars text) → length rest ≡ 0 → chars rest ≡ drop (i + 1) (chars text)
behind_end text rest i is none =
    let empty : chars rest ≡ [] = ap chars (nil_from_length rest none) ∙ chars-nil in
    empty ∙ ap (drop 1) (sym empty ∙ is) ∙ drop-drop 1 i (chars text)

-- one character more, if there is one
pub behind_step : {S : Type 0} (left : S → List ℕ) (text : List ℕ) (s t : S) (i : ℕ) (r : Option ℕ) → IsUtf8 (left s) → chars (left s) ≡ drop i (chars text)
    → MatchOption r ((length (left s) ≡ 0) × (t ≡ s)) (λ c. left s ≡ encode_utf8 c ++ left t) → IsUtf8 (left t) × (chars (left t) ≡ drop (i + 1) (chars text))
behind_step left text s t i None utf8 is (none, same) = (subst (λ u. IsUtf8 (left u)) (sym same) utf8, ap (λ u. chars (left u)) same ∙ behind_end text (left s) i is none)
behind_step left text s t i (Some c) utf8 is first = (IsUtf8-past_char (left s) (left t) c utf8 first, behind_next text (left s) (left t) i c utf8 is first)

module _ (text rest : List ℕ) (i n : ℕ) (utf8 : IsUtf8 text) (rest_utf8 : IsUtf8 rest) (is : chars rest ≡ drop i (chars text)) (len : n ≡ length text - length rest) where
  front : List ℕ
  front = encode_utf8_all (take i (chars text))

  whole : text ≡ front ++ rest
  unfolding front
  whole =
      sym (encodes-chars text utf8) ∙ ap encode_utf8_all (sym (take-append-drop i (chars text))) ∙ encodes-append (take i (chars text)) (drop i (chars text))
      ∙ ap (λ t. encode_utf8_all (take i (chars text)) ++ t) (ap encode_utf8_all (sym is) ∙ encodes-chars rest rest_utf8)

  pub left_len : length rest ≤ length text
  left_len = omega (arith, ap length whole, length-append front rest)

  front_len : length front ≡ n
  front_len = omega (arith, ap length whole, length-append front rest, len)

  pub front_cut : IsCharBoundary text n
  front_cut = subst (IsCharBoundary text) front_len (IsCharBoundary-at_seam text front rest whole rest_utf8)

  front_is : take n text ≡ front
  front_is = ap (take n) whole ∙ take_at front rest n front_len

  pub front_chars : chars (take n text) ≡ take i (chars text)
  unfolding front
  front_chars = sym (chars_from_encodes (take i (chars text)) (take n text) (IsUtf8-take text n utf8 front_cut) (sym front_is))

-- ---- a text of which the front is shown

-- text without characters is empty
no_chars : (bs : List ℕ) → IsUtf8 bs → chars bs ≡ [] → bs ≡ []
no_chars bs utf8 none = sym (encodes-chars bs utf8) ∙ ap encode_utf8_all none

-- something is left after 60 characters where there are more
pub is_left : (text rest : List ℕ) → IsUtf8 rest → chars rest ≡ drop 60 (chars text) → not (length rest == 0) ≡ nat_lt 60 (length (chars text))
is_left text rest utf8 is = by rest refl (chars rest) refl
  where
    len : length (chars rest) ≡ length (chars text) - 60
    len = ap length is ∙ length-drop 60 (chars text)

    by : (bs : List ℕ) → rest ≡ bs → (cs : List ℕ) → chars rest ≡ cs → not (length bs == 0) ≡ nat_lt 60 (length (chars text))
    by [] empty cs has =
        let none : length (chars rest) ≡ 0 = ap length (ap chars empty ∙ chars-nil) in
        sym (le-ltb 60 (length (chars text)) (omega (arith, len, none)))
    by (b ∷ bs) some [] has = absurd (cc (sym some ∙ no_chars rest utf8 has))
    by (b ∷ bs) some (c ∷ cs) has =
        let more : length (chars rest) ≡ suc (length cs) = ap length has in
        ap not (ne_eqb (suc (length bs)) 0 (λ e. omega (arith, e))) ∙ sym (lt-ltb 60 (length (chars text)) (omega (arith, len, more)))

pub clipped-is : (text front : List ℕ) (cut : Bool) → chars front ≡ take 60 (chars text) → cut ≡ nat_lt 60 (length (chars text)) → shown front ++ (if cut then codes ".." else []) ≡ clipped text
unfolding shown clipped
clipped-is text front cut is more = λ k. flat_map shown_char (is k) ++ (if more k then codes ".." else [])
