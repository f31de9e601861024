-- A set of places as a list of flags.
use Rattle.std.specs.Prelude.{ℕ, ◌+◌, ◌-◌, ◌==◌, Bool, true, false, List, [], ◌∷◌, slice_index_or, if◌then◌else◌}

-- the places of the flags that are set, where the first flag is that of place n
abbrev pub places_from : ℕ → List Bool → List ℕ
places_from n [] = []
places_from n (true ∷ flags) = n ∷ places_from (n + 1) flags
places_from n (false ∷ flags) = places_from (n + 1) flags

-- whether the flag of this place is set
abbrev pub flag_at : List Bool → ℕ → Bool
flag_at flags place = if place == 0 then false else slice_index_or flags (place - 1) false
