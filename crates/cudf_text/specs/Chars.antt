-- Classes of characters, and trimming: CUDF 2.0, the type library.
use Rattle.std.specs.Prelude.{ℕ, ◌-◌, Bool, ◌&&◌, ◌||◌, ◌==◌, List, length, take, drop, slice_index, codes}
use Rattle.std.specs.List.{list_all, list_any, prefix_len, suffix_len}
use Rattle.std.specs.Str.{byte}
use Rattle.std.specs.Char.{is_ascii_alphabetic, is_ascii_alphanumeric}

-- a space or a tab
abbrev pub is_blank : ℕ → Bool
is_blank b = b == byte " " || b == 9

-- only blanks, or nothing
abbrev pub is_blank_text : List ℕ → Bool
is_blank_text text = list_all is_blank text

-- the text without blanks at its front
abbrev pub trim_start : List ℕ → List ℕ
trim_start text = drop (prefix_len is_blank text) text

-- the text without blanks at its end
abbrev pub trim_end : List ℕ → List ℕ
trim_end text = take (length text - suffix_len is_blank text) text

-- the text without blanks at either end
abbrev pub trim : List ℕ → List ℕ
trim text = trim_end (trim_start text)

-- a character of an ident, of a superset of CUDF's (own)
abbrev pub is_ident_char : ℕ → Bool
is_ident_char b = is_ascii_alphanumeric b || b == byte "-" || b == byte "_"

-- a letter of ASCII, then characters of idents
unfoldable pub is_ident : List ℕ → Bool
is_ident text = is_ascii_alphabetic (slice_index text 0) && list_all is_ident_char text

-- a character of a package's name, of a superset of CUDF's (own)
abbrev pub is_pkgname_char : ℕ → Bool
is_pkgname_char b = is_ascii_alphanumeric b || list_any (λ c. c == b) (codes "+-./@()%_:~")

-- a character of an operator
abbrev pub is_operator_char : ℕ → Bool
is_operator_char b = list_any (λ c. c == b) (codes "!<=>")

-- what follows the characters at the front that pass the test
abbrev pub rest_after : (ℕ → Bool) → List ℕ → List ℕ
rest_after test text = drop (prefix_len test text) text
