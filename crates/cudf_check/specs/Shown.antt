-- How lines show a text that an input or a caller wrote: own.
use Rattle.std.specs.Prelude.{ℕ, ◌+◌, ◌-◌, ◌/◌, ◌%◌, nat_lt, List, [], ◌∷◌, ◌++◌, length, take, codes, if◌then◌else◌}
use Rattle.std.specs.Char.{encode_utf8, is_control}
use Rattle.std.specs.List.{flat_map}
use Rattle.std.specs.Str.{byte, chars}

-- a digit from 0 to 15: `0` to `9`, then `A` to `F`
abbrev pub hexadecimal_digit : ℕ → ℕ
hexadecimal_digit d = if nat_lt d 10 then byte "0" + d else byte "A" + (d - 10)

-- a byte by two digits, as `0A`
abbrev pub byte_digits : ℕ → List ℕ
byte_digits b = hexadecimal_digit (b / 16) ∷ hexadecimal_digit (b % 16) ∷ []

-- a number below 256 without leading zeros, as `9` and `1F`
abbrev pub hexadecimal : ℕ → List ℕ
hexadecimal n = (if nat_lt n 16 then [] else hexadecimal_digit (n / 16) ∷ []) ++ hexadecimal_digit (n % 16) ∷ []

-- `\u{1F}`
abbrev pub escaped : ℕ → List ℕ
escaped c = codes "\\u{" ++ hexadecimal c ++ codes "}"

-- a control character (U+0 to U+1F, U+7F to U+9F) by its number, and any other as it is
abbrev pub shown_char : ℕ → List ℕ
shown_char c = if is_control c then escaped c else encode_utf8 c

-- the text, with each control character by its number
unfoldable pub shown : List ℕ → List ℕ
shown text = flat_map shown_char (chars text)

-- the first 60 characters of a text, counted before any is shown by its number, and `..` where there are more
unfoldable pub clipped : List ℕ → List ℕ
clipped text = flat_map shown_char (take 60 (chars text)) ++ (if nat_lt 60 (length (chars text)) then codes ".." else [])
