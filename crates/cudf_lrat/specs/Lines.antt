-- What a line of a proof says (own, after LRAT's text form).
use Rattle.std.specs.Prelude.{ℕ, ◌^◌, Bool, true, false, not, ◌&&◌, ◌==◌, nat_lt, List, [], ◌∷◌, length, drop, filter, filter_map, Option, Some, None, is_some, option_map, if◌then◌else◌, bytes_eq, codes}
use Rattle.std.specs.List.{list_all, list_any, slice_split}
use Rattle.std.specs.Str.{all_ascii_digits}
use Rattle.std.specs.Str.Parse.{digits_value, starts_with_minus}
use Rattle.cudf_text.specs.Chars.{is_blank}
use Rattle.cudf_lrat.specs.declared.reader.SignedNumber.{SignedNumber}

abbrev pub is_empty : {X : Type 0} → List X → Bool
is_empty xs = length xs == 0

-- the words of a line: its parts between blanks
abbrev pub words_of : List ℕ → List (List ℕ)
words_of line = filter (λ word. not (is_empty word)) (slice_split is_blank line)

-- ---- numbers

-- the value of one or more digits, zeros at the front too, where it fits 64 bits
unfoldable pub number : List ℕ → Option ℕ
number word = if nat_lt 0 (length word) && all_ascii_digits word && nat_lt (digits_value 10 word) (2 ^ 64) then Some (digits_value 10 word) else None

-- a negative number isn't zero
abbrev pub negative : Option ℕ → Option SignedNumber
negative None = None
negative (Some value) = if value == 0 then None else Some (record { negative = true; value = value })

-- a number, or a minus and a number of at least 1
unfoldable pub signed_number : List ℕ → Option SignedNumber
signed_number word = if starts_with_minus word then negative (number (drop 1 word)) else option_map (λ value. record { negative = false; value = value }) (number word)

-- the numbers that the words are; none where one is no number
abbrev pub signed_numbers : List (List ℕ) → Option (List SignedNumber)
signed_numbers words = if list_all (λ word. is_some (signed_number word)) words then Some (filter_map signed_number words) else None

-- the numbers, cut at each zero: one piece more than there are zeros
abbrev pub cut_at_zeros : List (List ℕ) → Option (List (List SignedNumber))
cut_at_zeros words = option_map (slice_split (λ n. n.value == 0)) (signed_numbers words)

-- ---- lines

pub data ProofLine : Type 0 where
  -- a blank line, a comment, or a deletion
  skipped : ProofLine
  -- a number, literals, and hints
  step : ℕ → List SignedNumber → List SignedNumber → ProofLine
  invalid : ProofLine

-- literals, a zero, hints, and a zero at the end
abbrev pub step_of : ℕ → Option (List (List SignedNumber)) → ProofLine
step_of number (Some (literals ∷ hints ∷ [] ∷ [])) = step number literals hints
step_of number _ = invalid

-- numbers without a sign, and a zero at the end
abbrev pub deletion_of : Option (List (List SignedNumber)) → ProofLine
deletion_of (Some (numbers ∷ [] ∷ [])) = if list_any (λ n. n.negative) numbers then invalid else skipped
deletion_of _ = invalid

-- a line's number, and the words after it
abbrev pub numbered_line : Option ℕ → List (List ℕ) → ProofLine
numbered_line None rest = invalid
numbered_line (Some number) [] = invalid
numbered_line (Some number) (word ∷ rest) = if bytes_eq word (codes "d") then deletion_of (cut_at_zeros rest) else step_of number (cut_at_zeros (word ∷ rest))

abbrev pub line_of_words : List (List ℕ) → ProofLine
line_of_words [] = skipped
line_of_words (word ∷ rest) = if bytes_eq word (codes "c") then skipped else numbered_line (number word) rest

-- what the text of a line says
unfoldable pub proof_line : List ℕ → ProofLine
proof_line text = line_of_words (words_of text)
