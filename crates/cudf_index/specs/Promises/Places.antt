-- Which packages of a status are answered (own).
use Rattle.std.specs.Prelude.{ℕ, Bool, ◌==◌, Option, List, [], ◌∷◌, map, filter, bytes_eq}
use Rattle.std.specs.List.{list_any}
use Rattle.cudf_value.specs.declared.vpkg.Relop.{Relop}
use Rattle.cudf_value.specs.Vpkgs.{meets}
use Rattle.cudf_index.specs.Satisfaction.{Placed, numbers_of}

-- the places of those that pass the test, in the order of the status
abbrev pub places_where : (Placed → Bool) → List Placed → List ℕ
places_where test status = map (λ q. q.0) (filter test status)

-- the package has this name; features don't count
abbrev pub is_named : List ℕ → Placed → Bool
is_named name q = bytes_eq q.1.name name

-- the package gives a number of the name that meets the bound, as its version or by a versioned feature
abbrev pub gives_number : List ℕ → Option (Relop × ℕ) → Placed → Bool
gives_number name bound q = list_any (meets bound) (numbers_of name (q ∷ []))

-- the package of the status at the place, if it holds one
abbrev pub at : ℕ → List Placed → List Placed
at place status = filter (λ q. q.0 == place) status

-- the numbers that it gives of the name
abbrev pub numbers_at : List ℕ → ℕ → List Placed → List ℕ
numbers_at name place status = numbers_of name (at place status)
