-- A declaration as it is written, with any blanks round the colon.
use Rattle.std.proofs.Common.{◌≡◌, ℕ, Bool, true, false, not, ◌&&◌, List, [], ◌∷◌, ◌++◌, length, drop, Option, Some, None, is_some, nat_lt, bytes_eq, codes, option_map, refl, ap, ◌∙◌, if◌then◌else◌}
use Rattle.std.specs.Prelude.{slice_index}
use Rattle.std.specs.Char.{is_ascii_alphabetic}
use Rattle.std.specs.List.{list_all, prefix_len}
use Rattle.std.proofs.Math.Seq.{take-append_seam, drop-append_seam}
use Rattle.std.proofs.lemmas.Bool.{and_parts, ltb-true, not-true}
use Rattle.std.proofs.lemmas.List.{append_assoc}
use Rattle.std.proofs.lemmas.Slice.Eq.{bytes_eq-Decides}
use Rattle.cudf_text.specs.Chars.{is_blank, is_blank_text, trim_start, is_ident_char, is_ident}
use Rattle.cudf_value.specs.Parts.{look_up}
use Rattle.cudf_value.specs.Types.{types, PlainType, word_type}
use Rattle.cudf_value.specs.Declarations.{enum_at, type_at, with_kind, declaration}
use Rattle.cudf_value.specs.Promises.Laws.{IsDeclaredSpaced}
use Rattle.cudf_value.proofs.ReadBack.{prefix_through}
use Rattle.cudf_value.proofs.VpkgLemmas.{blank_is, apart, none_passes, blanks_off, blanks_then}

-- what is so of the word of each row is so of a word that has a row
row_test : {A : Type 0} (test : List ℕ → Bool) (word : List ℕ) (rows : List (List ℕ × A)) → list_all (λ row. test row.0) rows ≡ true → is_some (look_up word rows) ≡ true → test word ≡ true
row_test test word [] all is = absurd cc
row_test test word ((known, value) ∷ rows) all is = by (bytes_eq word known) refl (row_test test word rows each.1) is
  where
    each : (test known ≡ true) × (list_all (λ row. test row.0) rows ≡ true)
    each = and_parts (test known) (list_all (λ row. test row.0) rows) all

    by : (same : Bool) → bytes_eq word known ≡ same → (is_some (look_up word rows) ≡ true → test word ≡ true) → is_some (if same then Some value else look_up word rows) ≡ true → test word ≡ true
    by true same others is = ap test ((bytes_eq-Decides word known).0 same) ∙ each.0
    by false same others is = others is

-- a word of letters, which isn't `enum`
abbrev is_type_word : List ℕ → Bool
is_type_word word = (nat_lt 0 (length word) && list_all is_ascii_alphabetic word) && not (bytes_eq word (codes "enum"))

mapped : {A B : Type 0} (value : B) (found : Option A) → is_some found ≡ true → option_map (λ x. value) found ≡ Some value
mapped value None is = absurd cc
mapped value (Some x) is = refl

no_letter : (rest : List ℕ) → is_ascii_alphabetic (slice_index rest 0) ≡ false → prefix_len is_ascii_alphabetic rest ≡ 0
no_letter [] none = refl
no_letter (b ∷ rest) none = rw none refl

pub ident_chars : (name : List ℕ) → is_ident name ≡ true → list_all is_ident_char name ≡ true
unfolding is_ident
ident_chars name is = (and_parts (is_ascii_alphabetic (slice_index name 0)) (list_all is_ident_char name) is).1

-- the type at the front of a word of letters, which no letter follows
pub type_from : (word rest : List ℕ) → list_all is_ascii_alphabetic word ≡ true → prefix_len is_ascii_alphabetic rest ≡ 0
    → type_at (word ++ rest) ≡ (if bytes_eq word (codes "enum") then enum_at (trim_start rest) else option_map (λ test. (word_type word, rest)) (look_up word types))
type_from word rest letters none =
    rw (
      prefix_through is_ascii_alphabetic word rest letters none,
      take-append_seam word rest,
      drop-append_seam word rest,
    )
    refl

-- the type at the front of its word
typed_at : (word rest : List ℕ) → is_some (look_up word types) ≡ true → is_ascii_alphabetic (slice_index rest 0) ≡ false → type_at (word ++ rest) ≡ Some (word_type word, rest)
typed_at word rest has_type none =
    let whole = and_parts (nat_lt 0 (length word) && list_all is_ascii_alphabetic word) (not (bytes_eq word (codes "enum"))) (row_test is_type_word word types refl has_type) in
    let letters = and_parts (nat_lt 0 (length word)) (list_all is_ascii_alphabetic word) whole.0 in
    type_from word rest letters.1 (no_letter rest none)
    ∙ ap (λ b. if b then enum_at (trim_start rest) else option_map (λ test. (word_type word, rest)) (look_up word types)) (not-true (bytes_eq word (codes "enum")) whole.1)
    ∙ mapped (word_type word, rest) (look_up word types) has_type

-- a type's word begins with no blank
word_start : (word rest : List ℕ) → is_some (look_up word types) ≡ true → prefix_len is_blank (word ++ rest) ≡ 0
word_start word rest has_type =
    let whole = and_parts (nat_lt 0 (length word) && list_all is_ascii_alphabetic word) (not (bytes_eq word (codes "enum"))) (row_test is_type_word word types refl has_type) in
    let letters = and_parts (nat_lt 0 (length word)) (list_all is_ascii_alphabetic word) whole.0 in
    none_passes is_blank is_ascii_alphabetic (apart is_blank is_ascii_alphabetic (blank_is is_ascii_alphabetic false refl refl)) word rest (ltb-true 0 (length word) letters.0) letters.1

-- a declaration, by the type that comes after the colon
pub declared_by : (name gap space typed : List ℕ) (kind : PlainType) (rest : List ℕ) → is_ident name ≡ true → is_blank_text gap ≡ true → is_blank_text space ≡ true
    → prefix_len is_blank typed ≡ 0 → type_at typed ≡ Some (kind, rest) → declaration (name ++ gap ++ codes ":" ++ space ++ typed) ≡ with_kind name kind (trim_start rest)
declared_by name gap space typed kind rest is_name gap_blank space_blank begins is_type =
    let behind = 58 ∷ (space ++ typed) in
    let grouped : name ++ gap ++ codes ":" ++ space ++ typed ≡ name ++ (gap ++ behind) =
    append_assoc (name ++ gap ++ codes ":") space typed ∙ append_assoc (name ++ gap) (codes ":") (space ++ typed) ∙ append_assoc name gap behind in
    let start : trim_start (gap ++ behind) ≡ behind = blanks_off gap behind gap_blank in
    let type_start : trim_start (space ++ typed) ≡ typed = blanks_off space typed space_blank ∙ ap (λ k. drop k typed) begins in
    ap declaration grouped
    ∙ rw (
      prefix_through is_ident_char name (gap ++ behind) (ident_chars name is_name) (blanks_then is_ident_char (blank_is is_ident_char false refl refl) gap behind gap_blank refl),
      take-append_seam name (gap ++ behind),
      drop-append_seam name (gap ++ behind),
      start,
      is_name,
      type_start,
      is_type,
    )
    refl

pub declared_spaced : (name gap space word rest : List ℕ) → is_ident name ≡ true → is_blank_text gap ≡ true → is_blank_text space ≡ true
    → is_some (look_up word types) ≡ true → not (is_ascii_alphabetic (slice_index rest 0)) ≡ true → IsDeclaredSpaced name gap space word rest
declared_spaced name gap space word rest is_name gap_blank space_blank has_type none =
    ap declaration (append_assoc (name ++ gap ++ codes ":" ++ space) word rest)
    ∙ declared_by name gap space (word ++ rest) (word_type word) rest is_name gap_blank space_blank (word_start word rest has_type)
    (typed_at word rest has_type (not-true (is_ascii_alphabetic (slice_index rest 0)) none))
