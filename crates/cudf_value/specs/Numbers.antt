-- The types `posint`, `nat` and `int` (the type library).
use Rattle.std.specs.Prelude.{ℕ, ◌+◌, ◌^◌, ℤ, pos, neg_ℤ, ◌&&◌, nat_lt, List, length, drop, Option, option_map, option_and_then, if◌then◌else◌}
use Rattle.std.specs.Str.{all_ascii_digits}
use Rattle.std.specs.Str.Parse.{digits_value, without_leading_plus, starts_with_minus}
use Rattle.cudf_value.specs.Parts.{some_if}

-- the value of one or more digits, zeros at the front too, where it is below the limit (own)
abbrev pub number_below : ℕ → List ℕ → Option ℕ
number_below limit text = let value = digits_value 10 text in some_if (all_ascii_digits text && nat_lt 0 (length text) && nat_lt value limit) value

-- the value of a `nat`: a plus or none, then digits
unfoldable pub natural : List ℕ → Option ℕ
natural text = number_below (2 ^ 64) (without_leading_plus text)

-- the value of a `posint`: a `nat` above 0
unfoldable pub positive : List ℕ → Option ℕ
positive text = option_and_then (λ n. some_if (nat_lt 0 n) n) (natural text)

-- the value of an `int`: a minus, a plus or none, then digits
unfoldable pub signed : List ℕ → Option ℤ
signed text = if starts_with_minus text
    then option_map (λ n. neg_ℤ (pos n)) (number_below (2 ^ 63 + 1) (drop 1 text))
    else option_map (λ n. pos n) (number_below (2 ^ 63) (without_leading_plus text))
