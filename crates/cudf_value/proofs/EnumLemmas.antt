-- An enum as it is declared, with any blanks round its idents.
use Rattle.std.proofs.Common.{◌≡◌, ℕ, ◌+◌, ◌<◌, Bool, true, false, not, ◌&&◌, ◌||◌, ◌==◌, List, [], ◌∷◌, ◌++◌, length, drop, map, position, Some, codes, option_map, inl, inr, refl, sym, ap, ◌∙◌, arith}
use Rattle.std.specs.Prelude.{option_and_then}
use Rattle.std.specs.Char.{is_ascii_alphabetic, is_ascii_alphanumeric}
use Rattle.std.specs.List.{list_all, join_with_byte}
use Rattle.std.proofs.Math.Seq.{take-append_seam}
use Rattle.std.proofs.lemmas.Bool.{or_cases, and_parts, eqb-true, lt-ltb, not-true}
use Rattle.std.proofs.lemmas.List.{append_assoc, drop_at, length-append, length_push}
use Rattle.std.proofs.lemmas.List.Sums.{AllPass-from_list_all}
use Rattle.std.proofs.lemmas.List.Splits.{slice_split_none, slice_split_at}
use Rattle.cudf_text.specs.Chars.{is_blank, is_blank_text, trim_start, trim, is_ident_char, is_ident, is_pkgname_char}
use Rattle.cudf_value.specs.Parts.{some_if, all_some, parts, read_parts}
use Rattle.cudf_value.specs.Types.{enum_type}
use Rattle.cudf_value.specs.Declarations.{ident_part, enum_to, enum_at, type_at, declaration}
use Rattle.cudf_value.specs.Promises.Laws.{SpacedIdent, is_spaced_ident, spaced_text, enum_text, IsEnumDeclared}
use Rattle.cudf_value.proofs.ReadBack.{prefix_through}
use Rattle.cudf_value.proofs.VpkgLemmas.{blank_is, apart, all_pass, both_pass, blanks_off, blanks_then, name_trimmed}
use Rattle.cudf_value.proofs.DeclarationLemmas.{ident_chars, type_from, declared_by}

-- ---- an ident with the blanks round it

record IsSpaced (i : SpacedIdent) : Type 0 where
  blank_before : is_blank_text i.before ≡ true
  is_name : is_ident i.ident ≡ true
  blank_behind : is_blank_text i.behind ≡ true

is_spaced : (i : SpacedIdent) → is_spaced_ident i ≡ true → IsSpaced i
is_spaced i is =
    let both = and_parts (is_blank_text i.before && is_ident i.ident) (is_blank_text i.behind) is in
    let front = and_parts (is_blank_text i.before) (is_ident i.ident) both.0 in
    record { blank_before = front.0; is_name = front.1; blank_behind = both.1 }

some_ident : (name : List ℕ) → is_ident name ≡ true → 0 < length name
unfolding is_ident
some_ident [] is = absurd cc
some_ident (b ∷ name) is = omega arith

ident_named : (b : ℕ) → is_ident_char b ≡ true → is_pkgname_char b ≡ true
ident_named b is = elim (or_cases (is_ascii_alphanumeric b || b == 45) (b == 95) is) [
  | inl e ↦ elim (or_cases (is_ascii_alphanumeric b) (b == 45) e) [ inl f ↦ rw f refl | inr f ↦ ap is_pkgname_char (eqb-true b 45 f) ]
  | inr e ↦ ap is_pkgname_char (eqb-true b 95 e)
]

ident_back : (i : SpacedIdent) → is_spaced_ident i ≡ true → ident_part (spaced_text i) ≡ Some i.ident
ident_back i is =
    let s = is_spaced i is in
    let named = all_pass is_ident_char is_pkgname_char ident_named i.ident (ident_chars i.ident s.is_name) in
    let trimmed : trim (spaced_text i) ≡ i.ident =
    ap trim (append_assoc i.before i.ident i.behind) ∙ name_trimmed i.before i.ident i.behind s.blank_before named (some_ident i.ident s.is_name) s.blank_behind in
    ap (λ text. some_if (is_ident text) text) trimmed ∙ ap (λ b. some_if b i.ident) s.is_name

-- ---- what is in the brackets has neither commas, but for those between idents, nor a bracket

abbrev lacks : ℕ → List ℕ → Bool
lacks x text = list_all (λ b. not (b == x)) text

lacks_other : (x : ℕ) (test : ℕ → Bool) → test x ≡ false → (text : List ℕ) → list_all test text ≡ true → lacks x text ≡ true
lacks_other x test fails text all =
    all_pass test (λ b. not (b == x)) (λ b is. ap not (apart (λ c. c == x) test (λ c e. ap test (eqb-true c x e) ∙ fails) b is)) text all

spaced_lacks : (x : ℕ) → is_blank x ≡ false → is_ident_char x ≡ false → (i : SpacedIdent) → is_spaced_ident i ≡ true → lacks x (spaced_text i) ≡ true
spaced_lacks x no_blank no_ident i is =
    let s = is_spaced i is in
    both_pass (λ b. not (b == x)) (i.before ++ i.ident) i.behind
    (both_pass (λ b. not (b == x)) i.before i.ident (lacks_other x is_blank no_blank i.before s.blank_before) (lacks_other x is_ident_char no_ident i.ident (ident_chars i.ident s.is_name)))
    (lacks_other x is_blank no_blank i.behind s.blank_behind)

abbrev inside : List SpacedIdent → List ℕ
inside idents = join_with_byte 44 (map spaced_text idents)

inside_lacks : (i : SpacedIdent) (idents : List SpacedIdent) → list_all is_spaced_ident (i ∷ idents) ≡ true → lacks 93 (inside (i ∷ idents)) ≡ true
inside_lacks i [] all = spaced_lacks 93 refl refl i (and_parts (is_spaced_ident i) true all).0
inside_lacks i (j ∷ idents) all =
    let each = and_parts (is_spaced_ident i) (list_all is_spaced_ident (j ∷ idents)) all in
    both_pass (λ b. not (b == 93)) (spaced_text i) (44 ∷ inside (j ∷ idents)) (spaced_lacks 93 refl refl i each.0) (inside_lacks j idents each.1)

-- ---- the idents between the commas

idents_back : (i : SpacedIdent) (idents : List SpacedIdent) → list_all is_spaced_ident (i ∷ idents) ≡ true
    → read_parts 44 ident_part (inside (i ∷ idents)) ≡ Some (map (λ j. j.ident) (i ∷ idents))
idents_back i [] all =
    let is = (and_parts (is_spaced_ident i) true all).0 in
    let comma = spaced_lacks 44 refl refl i is in
    ap (λ ps. all_some (map ident_part ps))
    (slice_split_none (λ b. b == 44) (spaced_text i) (λ k d below. not-true _ (AllPass-from_list_all (λ b. not (b == 44)) (spaced_text i) comma k d below)))
    ∙ ap (λ found. all_some (found ∷ [])) (ident_back i is)
idents_back i (j ∷ idents) all =
    let each = and_parts (is_spaced_ident i) (list_all is_spaced_ident (j ∷ idents)) all in
    let comma = spaced_lacks 44 refl refl i each.0 in
    let more = inside (j ∷ idents) in
    ap (λ ps. all_some (map ident_part ps))
    (slice_split_at (λ b. b == 44) (spaced_text i) 44 more (λ k d below. not-true _ (AllPass-from_list_all (λ b. not (b == 44)) (spaced_text i) comma k d below)) refl)
    ∙ ap (λ found. all_some (found ∷ map ident_part (parts 44 more))) (ident_back i each.0)
    ∙ ap (option_map (λ values. i.ident ∷ values)) (idents_back j idents each.1)

-- ---- the brackets

closes : (text rest : List ℕ) → lacks 93 text ≡ true → position (λ b. b == 93) (text ++ 93 ∷ rest) ≡ Some (length text)
closes text rest all =
    rw (
      prefix_through (λ b. not (b == 93)) text (93 ∷ rest) all refl,
      lt-ltb (length text) (length (text ++ 93 ∷ rest)) (omega (arith, length-append text (93 ∷ rest))),
    )
    refl

past : (text rest : List ℕ) (b : ℕ) → drop (length text + 1) (text ++ b ∷ rest) ≡ rest
past text rest b = ap (drop (length text + 1)) (sym (append_assoc text (b ∷ []) rest)) ∙ drop_at (text ++ b ∷ []) rest (length text + 1) (length_push text b)

brackets_back : (text rest : List ℕ) → lacks 93 text ≡ true → enum_at (91 ∷ (text ++ 93 ∷ rest)) ≡ option_map (λ idents. (enum_type idents, rest)) (read_parts 44 ident_part text)
brackets_back text rest all =
    ap (option_and_then (enum_to (text ++ 93 ∷ rest))) (closes text rest all)
    ∙ ap (λ t. option_map (λ idents. (enum_type idents, drop (length text + 1) (text ++ 93 ∷ rest))) (read_parts 44 ident_part t)) (take-append_seam text (93 ∷ rest))
    ∙ ap (λ t. option_map (λ idents. (enum_type idents, t)) (read_parts 44 ident_part text)) (past text rest 93)

-- ---- the enum

enum_back : (blanks : List ℕ) (i : SpacedIdent) (idents : List SpacedIdent) (rest : List ℕ) → is_blank_text blanks ≡ true → list_all is_spaced_ident (i ∷ idents) ≡ true
    → type_at (enum_text blanks (i ∷ idents) ++ rest) ≡ Some (enum_type (map (λ j. j.ident) (i ∷ idents)), rest)
enum_back blanks i idents rest blank all =
    let word = codes "enum" in
    let text = inside (i ∷ idents) in
    let behind = 91 ∷ (text ++ 93 ∷ rest) in
    let grouped : enum_text blanks (i ∷ idents) ++ rest ≡ word ++ (blanks ++ behind) =
    append_assoc (word ++ blanks ++ codes "[" ++ text) (codes "]") rest ∙ append_assoc (word ++ blanks ++ codes "[") text (93 ∷ rest)
    ∙ append_assoc (word ++ blanks) (codes "[") (text ++ 93 ∷ rest) ∙ append_assoc word blanks behind in
    let bracket : trim_start (blanks ++ behind) ≡ behind = blanks_off blanks behind blank in
    ap type_at grouped
    ∙ type_from word (blanks ++ behind) refl (blanks_then is_ascii_alphabetic (blank_is is_ascii_alphabetic false refl refl) blanks behind blank refl)
    ∙ ap enum_at bracket
    ∙ brackets_back text rest (inside_lacks i idents all)
    ∙ ap (option_map (λ is. (enum_type is, rest))) (idents_back i idents all)

pub enum_declared : (name gap space blanks rest : List ℕ) → is_ident name ≡ true → is_blank_text gap ≡ true → is_blank_text space ≡ true → is_blank_text blanks ≡ true
    → IsEnumDeclared name gap space blanks rest
enum_declared name gap space blanks rest is_name gap_blank space_blank blank [] some all = absurd (omega arith)
enum_declared name gap space blanks rest is_name gap_blank space_blank blank (i ∷ idents) some all =
    let typed = enum_text blanks (i ∷ idents) ++ rest in
    ap declaration (append_assoc (name ++ gap ++ codes ":" ++ space) (enum_text blanks (i ∷ idents)) rest)
    ∙ declared_by name gap space typed (enum_type (map (λ j. j.ident) (i ∷ idents))) rest is_name gap_blank space_blank refl (enum_back blanks i idents rest blank all)
