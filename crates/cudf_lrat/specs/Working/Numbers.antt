-- Numbers, digit by digit, and numbers in a row.
use Rattle.std.specs.Prelude.{ℕ, ◌^◌, ◌&&◌, nat_lt, List, ◌∷◌, ◌++◌, Option, Some, None, option_map, if◌then◌else◌}
use Rattle.std.specs.Str.{all_ascii_digits}
use Rattle.std.specs.Str.Parse.{digits_value_after}
use Rattle.cudf_lrat.specs.declared.reader.SignedNumber.{SignedNumber}

-- the value of digits after those of a value, where it fits 64 bits
unfoldable pub number_after : ℕ → List ℕ → Option ℕ
number_after value digits = if all_ascii_digits digits && nat_lt (digits_value_after 10 value digits) (2 ^ 64) then Some (digits_value_after 10 value digits) else None

-- the numbers that were read, and others after them
abbrev pub after_numbers : List SignedNumber → Option (List SignedNumber) → Option (List SignedNumber)
after_numbers read others = option_map (λ numbers. read ++ numbers) others

-- a zero is missing, or a word is no number
abbrev pub HasNoZero : Option (List (List SignedNumber)) → Type 0
HasNoZero (Some (piece ∷ next ∷ pieces)) = ⊥
HasNoZero _ = Unit {0}

-- a piece before others
abbrev pub with_piece : List SignedNumber → Option (List (List SignedNumber)) → Option (List (List SignedNumber))
with_piece piece others = option_map (λ pieces. piece ∷ pieces) others
