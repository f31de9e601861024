-- The entries of a list, one after the other.
use Rattle.std.specs.Prelude.{ℕ, Bool, true, false, ◌||◌, ◌==◌, List, [], ◌∷◌, length, slice_index, Option, Some, None}
use Rattle.std.specs.List.{before_first}
use Rattle.std.specs.Str.{byte}
use Rattle.cudf_text.specs.Chars.{trim}
use Rattle.cudf_value.specs.Vpkgs.{PlainVpkg, vpkg, veqpkg}

-- a part of a list, with blanks or none round the vpkg, which has to be a veqpkg where it is exact
abbrev pub vpkg_part : Bool → List ℕ → Option PlainVpkg
vpkg_part false part = vpkg (trim part)
vpkg_part true part = veqpkg (trim part)

-- the text before the first comma
abbrev pub first_part : List ℕ → List ℕ
first_part text = before_first (λ b. b == byte ",") text

-- an entry ends at the front of this text
abbrev pub ends_entry : List ℕ → Bool
ends_entry text = length text == 0 || slice_index text 0 == byte ","

-- the text from the end of an entry on
abbrev pub entry_end : Option (List ℕ) → List ℕ
entry_end None = []
entry_end (Some more) = byte "," ∷ more
