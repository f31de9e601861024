-- Where the characters of a declaration are: outside quotes, in them, or after a backslash in them, and in brackets or not (own).
use Rattle.std.specs.Prelude.{ℕ, Bool, true, false, not, ◌&&◌, ◌||◌, ◌==◌, List, [], ◌∷◌, map, Option, if◌then◌else◌}
use Rattle.std.specs.List.{fold, slice_split, list_all}
use Rattle.std.specs.Str.{byte}
use Rattle.cudf_value.specs.Parts.{some_if}

-- a double quote
abbrev pub quote_mark : ℕ
quote_mark = 34

-- a backslash
abbrev pub backslash : ℕ
backslash = 92

-- where a character is, the first three with whether it is in brackets; astray is what follows a mark that isn't allowed where it is
pub data Spot : Type 0 where
  unquoted : Bool → Spot
  in_quotes : Bool → Spot
  after_backslash : Bool → Spot
  astray : Spot

-- the spot after a character: brackets hold no brackets, and a backslash in quotes comes before a quote or a backslash
abbrev pub next_spot : Spot → ℕ → Spot
next_spot (unquoted bracket) b = if b == quote_mark then in_quotes bracket
    else (if b == byte "[" then (if bracket then astray else unquoted true)
    else (if b == byte "]" then (if bracket then unquoted false else astray) else unquoted bracket))
next_spot (in_quotes bracket) b = if b == backslash then after_backslash bracket else (if b == quote_mark then unquoted bracket else in_quotes bracket)
next_spot (after_backslash bracket) b = if b == quote_mark || b == backslash then in_quotes bracket else astray
next_spot astray b = astray

-- each character with its spot, where the first is at the given one
abbrev pub with_spots : Spot → List ℕ → List (Spot × ℕ)
with_spots spot [] = []
with_spots spot (b ∷ text) = (spot, b) ∷ with_spots (next_spot spot b) text

-- in neither quotes nor brackets
abbrev pub is_outside : Spot → Bool
is_outside (unquoted false) = true
is_outside _ = false

-- a comma outside quotes and brackets
abbrev pub separates : Spot × ℕ → Bool
separates x = is_outside x.0 && x.1 == byte ","

-- the pieces between such commas, where all quotes and brackets are closed and none is astray
abbrev pub pieces : List ℕ → Option (List (List ℕ))
pieces text = some_if (is_outside (fold next_spot (unquoted false) text)) (map (map (λ x. x.1)) (slice_split separates (with_spots (unquoted false) text)))

-- in quotes outside brackets, and not after a backslash
abbrev pub is_in_quotes : Spot → Bool
is_in_quotes (in_quotes false) = true
is_in_quotes _ = false

-- the text may be between quotes: each quote in it is escaped, and each backslash escapes
abbrev pub is_quotable : List ℕ → Bool
is_quotable text = list_all (λ x. not (is_outside x.0)) (with_spots (in_quotes false) text) && is_in_quotes (fold next_spot (in_quotes false) text)
