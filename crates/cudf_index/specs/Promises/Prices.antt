-- What the counted calls cost (own): each look-up by name, each reading of an entry, and each own entry that is judged.
use Rattle.std.specs.Prelude.{ℕ, zero, suc, ◌+◌, ◌*◌, ◌/◌, List, [], ◌∷◌, length, Option, Some, None, find, ◌==◌, if◌then◌else◌}
use Rattle.std.specs.List.{sum_by}
use Rattle.cudf_value.specs.Formulas.{PlainAtom, truth_atom, falsehood_atom, named}
use Rattle.cudf_index.specs.Satisfaction.{Placed, numbers_of, satisfies_atom}

unfoldable pub digits_within : ℕ → ℕ → ℕ
digits_within zero n = 0
digits_within (suc fuel) zero = 0
digits_within (suc fuel) (suc n) = digits_within fuel (suc n / 2) + 1

-- the number of binary digits, 0 for 0
unfoldable pub digits : ℕ → ℕ
digits n = digits_within n n

-- how many packages of a status have the name, and how many entries `f = n` of their `provides`, with repeats
abbrev pub entries : List Placed → List ℕ → ℕ
entries status name = length (numbers_of name status)

-- one look-up, and two binary searches among the entries of the name
abbrev pub search_cost : List Placed → List ℕ → ℕ
search_cost status name = 1 + 2 * digits (entries status name)

-- a vpkg costs a search, a constant nothing
abbrev pub atom_cost : List Placed → PlainAtom → ℕ
atom_cost status truth_atom = 0
atom_cost status falsehood_atom = 0
atom_cost status (named v) = search_cost status v.name

-- the atoms of a clause together
abbrev pub clause_cost : List Placed → List PlainAtom → ℕ
clause_cost status clause = sum_by (atom_cost status) clause

-- a vpkg is looked up once, a constant never
abbrev pub atom_lookups : PlainAtom → ℕ
atom_lookups truth_atom = 0
atom_lookups falsehood_atom = 0
atom_lookups (named v) = 1

-- the look-ups without which a clause can't be judged from left to right: its vpkgs up to the first atom that is satisfied
abbrev pub clause_lookups : List Placed → List PlainAtom → ℕ
clause_lookups status [] = 0
clause_lookups status (atom ∷ atoms) = atom_lookups atom + (if satisfies_atom status atom then 0 else clause_lookups status atoms)

-- a package and each entry of its `provides`
abbrev pub own_entries : Option Placed → ℕ
own_entries None = 0
own_entries (Some p) = length p.1.provides + 1

-- those of the package at a place: none where the status doesn't hold the place
abbrev pub own_cost : List Placed → ℕ → ℕ
own_cost status place = own_entries (find (λ p. p.0 == place) status)

-- an index that is asked, and the steps that were taken in it
pub record Metering : Type 0 where
  pub status : List Placed
  pub steps : ℕ
