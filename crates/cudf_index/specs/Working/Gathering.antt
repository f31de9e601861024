-- What an index gathers of each name before it is put in order (own).
use Rattle.std.specs.Prelude.{◌≡◌, ℕ, ◌==◌, Bool, true, false, not, List, [], ◌∷◌, ◌++◌, bytes_eq, map, filter, filter_map, Option, Some, None, option_map, if◌then◌else◌}
use Rattle.std.specs.List.{flat_map, count_by, list_any, list_all}
use Rattle.std.specs.List.Sorted.{IsNonDecreasing}
use Rattle.std.specs.Option.{is_none}
use Rattle.cudf_value.specs.declared.vpkg.Relop.TheVariants.{Eq}
use Rattle.cudf_value.specs.Vpkgs.{PlainVpkg}
use Rattle.cudf_problem.specs.Documents.{is_empty}
use Rattle.cudf_problem.specs.Universe.{PlainPackage}
use Rattle.cudf_index.specs.Satisfaction.{Placed}
use Rattle.cudf_index.specs.Working.Kept.{found}
use Rattle.cudf_index.specs.declared.index.gathered_names.Entries.{Entries}
use Rattle.cudf_index.specs.declared.index.gathered_names.Provision.{Provision}
use Rattle.cudf_index.specs.declared.index.gathered_names.GatheredNames.{GatheredNames}

-- a name without a row has no provisions
abbrev pub row_items : Option (List Provision) → List Provision
row_items None = []
row_items (Some row) = row

-- the provisions that were gathered of a name
abbrev pub row_of : List ℕ → GatheredNames → List Provision
row_of f g = row_items (found (λ k. bytes_eq f k.now) g.names.keys g.rows.items)

-- the name has a row
abbrev pub has_row : List ℕ → GatheredNames → Bool
has_row f g = list_any (λ k. bytes_eq f k.now) g.names.keys

-- each name that has a row has a provision in it
abbrev pub AreFilled : GatheredNames → Type 0
AreFilled g = (f : List ℕ) → has_row f g ≡ not (is_empty (row_of f g))

-- the provisions that entries of a package give of a name, where the entries are its version, or features
abbrev pub provisions_of : Bool → List ℕ → ℕ → List PlainVpkg → List Provision
provisions_of is_version f place entries = map (λ entry. record { number = option_map (λ b. b.1) entry.bound; place = place; is_version = is_version }) (filter (λ entry. bytes_eq entry.name f) entries)

-- a package's name and version, as an entry
abbrev pub own_entry : PlainPackage → PlainVpkg
own_entry p = record { name = p.name; bound = Some (Eq, p.version) }

-- the provisions that a package gives of a name: its version first
abbrev pub given_by : List ℕ → Placed → List Provision
given_by f p = provisions_of true f p.0 (own_entry p.1 ∷ []) ++ provisions_of false f p.0 p.1.provides

-- those that a status gives of it
abbrev pub given_of : List ℕ → List Placed → List Provision
given_of f status = flat_map (given_by f) status

-- the place, where all are the same
abbrev pub sole_place : List ℕ → Option ℕ
sole_place [] = None
sole_place (place ∷ places) = if list_all (λ p. p == place) (place ∷ places) then Some place else None

-- what is kept of a row
pub record Completes (row : List Provision) (kept : Entries) : Type 0 where
  pub ascending : IsNonDecreasing kept.numbers
  pub numbers : (p : ℕ → Bool) → count_by p kept.numbers ≡ count_by p (filter_map (λ g. g.number) row)
  pub unversioned : kept.unversioned ≡ count_by (λ g. is_none g.number) row
  pub sole : kept.sole ≡ sole_place (map (λ g. g.place) row)
  pub is_package : kept.is_package ≡ list_any (λ g. g.is_version) row

-- both are there and the one is what is kept of the other, or neither is
abbrev pub BothAt : {R E : Type 0} → (R → E → Type 0) → Option R → Option E → Type 0
BothAt Keeps None None = Unit
BothAt Keeps (Some row) (Some kept) = Keeps row kept
BothAt Keeps None (Some kept) = ⊥
BothAt Keeps (Some row) None = ⊥

-- at each place, both or neither
abbrev pub CompletesAt : Option (List Provision) → Option Entries → Type 0
CompletesAt row kept = BothAt Completes row kept
