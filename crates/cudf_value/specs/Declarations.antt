-- The value of the preamble's `property` (syntax of the preamble): declarations of extra package properties.
use Rattle.std.specs.Prelude.{ℕ, ◌+◌, ◌-◌, Bool, false, not, ◌&&◌, ◌==◌, nat_le, List, [], length, take, drop, map, take_while, position, slice_index, Option, Some, None, option_map, option_and_then, bytes_eq, codes, if◌then◌else◌}
use Rattle.std.specs.List.{list_any}
use Rattle.std.specs.Option.{option_map_or}
use Rattle.std.specs.Str.{byte}
use Rattle.std.specs.Char.{is_ascii_alphabetic}
use Rattle.cudf_text.specs.Chars.{is_ident_char, trim_start, trim, is_ident, rest_after}
use Rattle.cudf_value.specs.Parts.{some_if, trimmed, all_some, look_up, read_parts}
use Rattle.cudf_value.specs.Types.{types, PlainType, word_type, enum_type, is_one_of, is_of_type}
use Rattle.cudf_value.specs.Spots.{quote_mark, is_quotable, pieces}

-- a declaration, in plain texts
pub record PlainDeclaration : Type 0 where
  pub name : List ℕ
  pub kind : PlainType
  pub default : Option (List ℕ)

-- a part of an enum, with blanks or none round the ident
abbrev pub ident_part : List ℕ → Option (List ℕ)
ident_part part = some_if (is_ident (trim part)) (trim part)

-- the enum whose idents end before the place of `]`, repeated ones too (own), and the text after it
abbrev pub enum_to : List ℕ → ℕ → Option (PlainType × List ℕ)
enum_to text n = option_map (λ idents. (enum_type idents, drop (n + 1) text)) (read_parts (byte ",") ident_part (take n text))

-- the enum whose idents are in the brackets at the front, and the text after it
abbrev pub enum_at : List ℕ → Option (PlainType × List ℕ)
enum_at text = if slice_index text 0 == byte "[" then option_and_then (enum_to (drop 1 text)) (position (λ b. b == byte "]") (drop 1 text)) else None

-- the type at the front of a text, and the text after it; an enum is more than a word
abbrev pub type_at : List ℕ → Option (PlainType × List ℕ)
type_at text = let word = take_while is_ascii_alphabetic text in let rest = rest_after is_ascii_alphabetic text in
    if bytes_eq word (codes "enum") then enum_at (trim_start rest) else option_map (λ test. (word_type word, rest)) (look_up word types)

-- the text between a first and a last character, where it begins and ends with these
abbrev pub between : ℕ → ℕ → List ℕ → Option (List ℕ)
between first last text = some_if (nat_le 2 (length text) && slice_index text 0 == first && slice_index text (length text - 1) == last)
    (take (length text - 2) (drop 1 text))

-- the text without brackets, where it begins with `[` and ends with `]`, whether or not they belong together
abbrev pub without_brackets : List ℕ → List ℕ
without_brackets text = option_map_or trim (between (byte "[") (byte "]") text) text

-- the type takes this text in quotes: a string, or an ident of an enum (own)
abbrev pub takes_quoted : PlainType → List ℕ → Bool
takes_quoted (word_type word) text = bytes_eq word (codes "string")
takes_quoted (enum_type idents) text = is_one_of idents text

-- the text is a default of the type: one quoted text that it takes so, or a text of the type without a quote
abbrev pub is_default : PlainType → List ℕ → Bool
is_default kind text = if slice_index text 0 == quote_mark
    then option_map_or (λ quoted. is_quotable quoted && takes_quoted kind quoted) (between quote_mark quote_mark text) false
    else not (list_any (λ b. b == quote_mark) text) && is_of_type kind text

-- the declaration of a name, a type and what follows them: nothing, or `=` and a default
abbrev pub with_kind : List ℕ → PlainType → List ℕ → Option PlainDeclaration
with_kind name kind rest = let text = without_brackets (trim (drop 1 rest)) in
    if length rest == 0 then Some (record { name = name; kind = kind; default = None })
    else some_if (slice_index rest 0 == byte "=" && is_default kind text) (record { name = name; kind = kind; default = Some text })

-- a declaration: its name, blanks or none, a colon, blanks or none, and its type with what follows it
abbrev pub declaration : List ℕ → Option PlainDeclaration
declaration text = let name = take_while is_ident_char text in let rest = trim_start (rest_after is_ident_char text) in
    if is_ident name && slice_index rest 0 == byte ":"
    then option_and_then (λ found. with_kind name found.0 (trim_start found.1)) (type_at (trim_start (drop 1 rest))) else None

-- all declarations of a value, with blanks or none round each; the empty text has none (own)
unfoldable pub declarations : List ℕ → Option (List PlainDeclaration)
declarations text = if length text == 0 then Some [] else option_and_then (λ ps. all_some (map (trimmed declaration) ps)) (pieces text)
