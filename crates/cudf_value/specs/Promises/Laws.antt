-- Laws over the definitions alone.
use Rattle.std.specs.Prelude.{◌≡◌, ℕ, ◌^◌, ◌<◌, Bool, true, ◌&&◌, List, ◌++◌, codes, length, map, Option, Some, IfSome, ◌↔◌}
use Rattle.std.specs.List.{list_all, flat_map, slice_split, join_with_byte}
use Rattle.std.specs.Str.{byte}
use Rattle.cudf_value.specs.declared.vpkg.Relop.{Relop}
use Rattle.cudf_text.specs.Chars.{is_blank_text, trim_start, is_ident}
use Rattle.cudf_value.specs.Types.{word_type, enum_type}
use Rattle.cudf_value.specs.Declarations.{with_kind, declaration}
use Rattle.cudf_value.specs.Spots.{pieces, is_quotable}
use Rattle.cudf_value.specs.Promises.Tokens.{Inner, Token, is_inner, is_token, is_comma, inner_text, text_of}
use Rattle.cudf_value.specs.Numbers.{positive}
use Rattle.cudf_value.specs.Vpkgs.{PlainVpkg, relop_text, vpkg}
use Rattle.cudf_value.specs.Printing.{vpkg_text}

-- the number of the bound, if there is one, is a posint
abbrev pub IsPosintBound : Option (Relop × ℕ) → Type 0
IsPosintBound bound = IfSome bound (λ b. (0 < b.1) × (b.1 < 2 ^ 64))

-- what is printed of a vpkg is read back as it
abbrev pub IsReadBack : List ℕ → Option (Relop × ℕ) → Type 0
IsReadBack name bound = let v : PlainVpkg = record { name = name; bound = bound } in vpkg (vpkg_text v) ≡ Some v

-- a name, an operator and a posint are a vpkg, with any blanks between them
abbrev pub IsReadSpaced : List ℕ → List ℕ → Relop → List ℕ → List ℕ → Type 0
IsReadSpaced name gap r space number = IfSome (positive number) (λ n.
    let v : PlainVpkg = record { name = name; bound = Some (r, n) } in vpkg (name ++ gap ++ relop_text r ++ space ++ number) ≡ Some v)

-- a name, a colon and a type's word, with any blanks round the colon, declare the name of this type; what follows
-- the word is read as nothing or a default
abbrev pub IsDeclaredSpaced : List ℕ → List ℕ → List ℕ → List ℕ → List ℕ → Type 0
IsDeclaredSpaced name gap space word rest =
    declaration (name ++ gap ++ codes ":" ++ space ++ word ++ rest) ≡ with_kind name (word_type word) (trim_start rest)

-- an ident of an enum, with the blanks before and after it
pub record SpacedIdent : Type 0 where
  pub before : List ℕ
  pub ident : List ℕ
  pub behind : List ℕ

abbrev pub is_spaced_ident : SpacedIdent → Bool
is_spaced_ident i = is_blank_text i.before && is_ident i.ident && is_blank_text i.behind

abbrev pub spaced_text : SpacedIdent → List ℕ
spaced_text i = i.before ++ i.ident ++ i.behind

-- an enum, with what is between its word and its bracket
abbrev pub enum_text : List ℕ → List SpacedIdent → List ℕ
enum_text blanks idents = codes "enum" ++ blanks ++ codes "[" ++ join_with_byte (byte ",") (map spaced_text idents) ++ codes "]"

-- a name, a colon and an enum of one ident or more, with any blanks round the colon, before the bracket and round each
-- ident, declare the name of the enum of these idents, in their order; what follows the brackets is read as
-- nothing or a default
abbrev pub IsEnumDeclared : List ℕ → List ℕ → List ℕ → List ℕ → List ℕ → Type 0
IsEnumDeclared name gap space blanks rest = (idents : List SpacedIdent) → 0 < length idents → list_all is_spaced_ident idents ≡ true →
    declaration (name ++ gap ++ codes ":" ++ space ++ enum_text blanks idents ++ rest) ≡ with_kind name (enum_type (map (λ i. i.ident) idents)) (trim_start rest)

-- the pieces, with a comma between each two, are the text
abbrev pub PiecesJoinToText : List ℕ → Type 0
PiecesJoinToText text = IfSome (pieces text) (λ ps. join_with_byte (byte ",") ps ≡ text)

-- what is made of tokens is cut at their commas, and nowhere inside quotes or brackets
abbrev pub IsCutAtCommas : Type 0
IsCutAtCommas = (tokens : List Token) → list_all is_token tokens ≡ true → pieces (text_of tokens) ≡ Some (map text_of (slice_split is_comma tokens))

-- a text that has pieces is made of tokens, and its pieces of those between their commas
abbrev pub IsMadeOfTokens : List ℕ → Type 0
IsMadeOfTokens text = IfSome (pieces text) (λ ps.
    (tokens : List Token) × (list_all is_token tokens ≡ true) × (text_of tokens ≡ text) × (map text_of (slice_split is_comma tokens) ≡ ps))

-- a text may be between quotes exactly where it is made of characters, quotes and backslashes escaped
abbrev pub IsQuotableAsMade : List ℕ → Type 0
IsQuotableAsMade text = (is_quotable text ≡ true) ↔ ((inner : List Inner) × (list_all is_inner inner ≡ true) × (flat_map inner_text inner ≡ text))
