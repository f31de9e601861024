-- What an index keeps of each name (own).
use Rattle.std.specs.Prelude.{◌≡◌, ℕ, Bool, false, List, [], ◌∷◌, bytes_eq, Option, Some, None, if◌then◌else◌, IfSome}
use Rattle.std.specs.List.{count_by, list_any}
use Rattle.std.specs.List.Sorted.{IsNonDecreasing}
use Rattle.std.specs.Option.{option_map_or}
use Rattle.cudf_value.specs.Vpkgs.{PlainVpkg}
use Rattle.cudf_index.specs.Satisfaction.{Placed, entry_pair, unversioned_name, is_met_by, numbers_of, gives_all_versions, satisfies, without}
use Rattle.cudf_index.specs.declared.index.gathered_names.Entries.{Entries}

-- the row of the first key that passes the test
abbrev pub found : {K R : Type 0} → (K → Bool) → List K → List R → Option R
found test [] rows = None
found test (k ∷ keys) [] = None
found test (k ∷ keys) (row ∷ rows) = if test k then Some row else found test keys rows

abbrev pub kept_numbers : Option Entries → List ℕ
kept_numbers None = []
kept_numbers (Some e) = e.numbers

abbrev pub kept_unversioned : Option Entries → ℕ
kept_unversioned None = 0
kept_unversioned (Some e) = e.unversioned

abbrev pub kept_sole : Option Entries → Option ℕ
kept_sole None = None
kept_sole (Some e) = e.sole

abbrev pub kept_is_package : Option Entries → Bool
kept_is_package None = false
kept_is_package (Some e) = e.is_package

-- without the package at the place no vpkg of the name is satisfied, as where no other package gives that name
abbrev pub IsSole : List ℕ → List Placed → ℕ → Type 0
IsSole name status place = (v : PlainVpkg) → v.name ≡ name → satisfies (without place status) v ≡ false

-- what is kept of a name is what the status gives of it; a name that isn't kept counts as one with empty lists
pub record Keeps (name : List ℕ) (status : List Placed) (kept : Option Entries) : Type 0 where
  pub ascending : IsNonDecreasing (kept_numbers kept)
  pub numbers : (p : ℕ → Bool) → count_by p (kept_numbers kept) ≡ count_by p (numbers_of name status)
  pub unversioned : kept_unversioned kept ≡ count_by (λ given. bytes_eq given name) (gives_all_versions status)
  pub sole : IfSome (kept_sole kept) (IsSole name status)
  pub is_package : kept_is_package kept ≡ list_any (λ p. bytes_eq p.1.name name) status

-- the entry has a number that meets the vpkg, and its name
abbrev pub is_met_by_entry : PlainVpkg → PlainVpkg → Bool
is_met_by_entry v entry = option_map_or (is_met_by v) (entry_pair entry) false

-- the entry gives all versions of the name
abbrev pub gives_all_of : List ℕ → PlainVpkg → Bool
gives_all_of name entry = option_map_or (λ given. bytes_eq given name) (unversioned_name entry) false
