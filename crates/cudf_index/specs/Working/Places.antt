-- Lists of places, known by which they are (own).
use Rattle.std.specs.Prelude.{◌≡◌, ℕ, Bool, true, false, ◌==◌, ◌&&◌, ◌||◌, List, [], ◌∷◌}
use Rattle.std.specs.List.{list_any}
use Rattle.cudf_value.specs.Formulas.{PlainAtom}
use Rattle.cudf_index.specs.Satisfaction.{Placed, satisfies_atom}

-- the place is one of them
abbrev pub has : List ℕ → ℕ → Bool
has places place = list_any (λ p. p == place) places

-- the status has a package at the place that passes the test
abbrev pub passes_at : (Placed → Bool) → ℕ → List Placed → Bool
passes_at test place status = list_any (λ q. (q.0 == place) && test q) status

-- the places of the packages that pass are there beside the old ones
abbrev pub Adds : (Placed → Bool) → List Placed → List ℕ → List ℕ → Type 0
Adds test status old new = (place : ℕ) → has new place ≡ (has old place || passes_at test place status)

-- the package at a place passes; or the places of those that do are added
abbrev pub PassesOrAdds : Bool → (Placed → Bool) → ℕ → List Placed → List ℕ → List ℕ → Type 0
PassesOrAdds true test own status old new = passes_at test own status ≡ true
PassesOrAdds false test own status old new = Adds test status old new

abbrev pub HoldsSame : List ℕ → List ℕ → Type 0
HoldsSame old new = (place : ℕ) → has new place ≡ has old place

-- the package, alone, satisfies the atom
abbrev pub meets_atom_alone : PlainAtom → Placed → Bool
meets_atom_alone atom q = satisfies_atom (q ∷ []) atom
