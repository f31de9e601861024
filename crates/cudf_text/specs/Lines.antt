-- The lines of a text and what each of them is: CUDF 2.0, syntax of stanzas and properties.
use Rattle.std.specs.Prelude.{ℕ, ◌+◌, Bool, true, false, ◌==◌, List, [], ◌∷◌, take, drop, map, filter, position, slice_index, if◌then◌else◌, Option, Some, None}
use Rattle.std.specs.List.{onto_first, before_first, enumerate_from}
use Rattle.std.specs.Str.{byte}
use Rattle.std.specs.Str.Lines.{strip_carriage_return}
use Rattle.cudf_text.specs.Chars.{is_blank, is_blank_text, trim, is_ident}

-- ---- lines

abbrev pub is_lf : ℕ → Bool
is_lf b = b == 10

-- the lines with their ends: the text cut after each LF, with no empty part at the end
abbrev pub raw_lines : List ℕ → List (List ℕ)
raw_lines [] = []
raw_lines (b ∷ bs) = if is_lf b then (b ∷ []) ∷ raw_lines bs else onto_first b (raw_lines bs)

-- a line without its LF, and then without one CR at its end (own)
abbrev pub line_text : List ℕ → List ℕ
line_text raw = strip_carriage_return (before_first is_lf raw)

-- the lines without their ends
abbrev pub lines : List ℕ → List (List ℕ)
lines text = map line_text (raw_lines text)

-- ---- classes

pub data Class : Type 0 where
  comment : Class
  blank : Class
  -- a trimmed text
  continuation : List ℕ → Class
  -- a name, and the trimmed text after its colon
  named : List ℕ → List ℕ → Class
  faulty : Class

-- the first byte is `#`
abbrev pub is_comment_text : List ℕ → Bool
is_comment_text text = slice_index text 0 == byte "#"

-- a line whose first colon is here: a name line, where all before the colon is an ident
abbrev pub class_by_colon : List ℕ → Option ℕ → Class
class_by_colon line None = faulty
class_by_colon line (Some colon) = if is_ident (take colon line) then named (take colon line) (trim (drop (colon + 1) line)) else faulty

-- the first of these that fits; a comment is allowed anywhere (own)
abbrev pub class : List ℕ → Class
class line =
    if is_comment_text line then comment
    else (if is_blank_text line then blank
    else (if is_blank (slice_index line 0) then continuation (trim line)
    else class_by_colon line (position (λ b. b == byte ":") line)))

-- a line's number and its class
abbrev pub NumberedLine : Type 0
NumberedLine = ℕ × Class

abbrev pub is_blank_line : NumberedLine → Bool
is_blank_line (n, blank) = true
is_blank_line (n, _) = false

abbrev pub is_no_comment : NumberedLine → Bool
is_no_comment (n, comment) = false
is_no_comment (n, _) = true

-- the lines that count: all but the comments, each with its number among all, from 1
abbrev pub judged_lines : List ℕ → List NumberedLine
judged_lines text = filter is_no_comment (enumerate_from 1 (map class (lines text)))
