-- The first place that gives a name and meets a bound (own).
use Rattle.std.specs.Prelude.{ℕ, ◌==◌, Bool, false, not, ◌&&◌, ◌||◌, nat_lt, List, find, Option, Some, None, option_map, if◌then◌else◌}
use Rattle.std.specs.List.{count_by}
use Rattle.std.specs.Option.{option_map_or}
use Rattle.cudf_value.specs.declared.vpkg.Relop.{Relop}
use Rattle.cudf_value.specs.Vpkgs.{meets}
use Rattle.cudf_index.specs.Satisfaction.{is_below_one}
use Rattle.cudf_index.specs.Working.Members.{is_other}
use Rattle.cudf_index.specs.declared.index.gathered_names.Entries.{Entries}
use Rattle.cudf_index.specs.declared.index.gathered_names.Provision.{Provision}

-- the number, or all versions where there is none, meets the bound
abbrev pub number_meets : Option (Relop × ℕ) → Option ℕ → Bool
number_meets bound None = not (is_below_one bound)
number_meets bound (Some n) = meets bound n

-- the provision is at another place than the one that is named, and meets the bound
abbrev pub meets_beside : Option ℕ → Option (Relop × ℕ) → Provision → Bool
meets_beside except bound g = is_other except g.place && number_meets bound g.number

-- the place of the first such provision
abbrev pub first_place_of : Option ℕ → Option (Relop × ℕ) → List Provision → Option ℕ
first_place_of except bound row = option_map (λ g. g.place) (find (meets_beside except bound) row)

-- the place of the first provision that is a package's own version
abbrev pub first_version_of : List Provision → Option ℕ
first_version_of row = option_map (λ g. g.place) (find (λ g. g.is_version) row)

-- the place that is named is the only one
abbrev pub is_sole : Option ℕ → Option ℕ → Bool
is_sole None sole = false
is_sole (Some place) sole = option_map_or (λ s. s == place) sole false

-- there is another place than the one that is named, and something meets the bound
abbrev pub may_meet : Option ℕ → Option (Relop × ℕ) → Entries → Bool
may_meet except bound e = not (is_sole except e.sole) && (nat_lt 0 (count_by (meets bound) e.numbers) || nat_lt 0 (if is_below_one bound then 0 else e.unversioned))
