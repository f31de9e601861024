-- Values made of parts (the type library): a text is cut at each separator, and each part has to have a value.
use Rattle.std.specs.Prelude.{ℕ, Bool, ◌==◌, List, [], ◌∷◌, length, map, Option, Some, None, option_map, bytes_eq, if◌then◌else◌}
use Rattle.std.specs.List.{slice_split}
use Rattle.std.specs.Str.{byte}
use Rattle.cudf_text.specs.Chars.{trim}

-- the value, where the test holds
abbrev pub some_if : {A : Type 0} → Bool → A → Option A
some_if test value = if test then Some value else None

-- what is read of the text without the blanks round it
abbrev pub trimmed : {A : Type 0} → (List ℕ → Option A) → List ℕ → Option A
trimmed read text = read (trim text)

-- all values, where there is one at each place
abbrev pub all_some : {A : Type 0} → List (Option A) → Option (List A)
all_some [] = Some []
all_some (None ∷ rest) = None
all_some (Some value ∷ rest) = option_map (λ values. value ∷ values) (all_some rest)

-- what is beside the word in the first of these rows that has it
abbrev pub look_up : {A : Type 0} → List ℕ → List (List ℕ × A) → Option A
look_up word [] = None
look_up word ((known, value) ∷ rows) = if bytes_eq word known then Some value else look_up word rows

-- the parts of a text, cut at each separator
abbrev pub parts : ℕ → List ℕ → List (List ℕ)
parts separator text = slice_split (λ b. b == separator) text

-- the values of the parts
abbrev pub read_parts : {A : Type 0} → ℕ → (List ℕ → Option A) → List ℕ → Option (List A)
read_parts separator read text = all_some (map read (parts separator text))

-- the values of the parts between commas; the empty text has none
abbrev pub comma_list : {A : Type 0} → (List ℕ → Option A) → List ℕ → Option (List A)
comma_list read text = if length text == 0 then Some [] else read_parts (byte ",") read text
