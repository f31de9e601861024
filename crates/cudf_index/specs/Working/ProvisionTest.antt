-- What is asked of the provisions of a name, and the places where it is found (own).
use Rattle.std.specs.Prelude.{ℕ, ◌-◌, ◌==◌, Bool, false, ◌||◌, nat_lt, List, [], ◌∷◌, ◌++◌, length, slice_get, cond, if◌then◌else◌}
use Rattle.std.specs.List.{count_by, fold}
use Rattle.std.specs.Option.{option_map_or}
use Rattle.cudf_value.specs.Vpkgs.{meets}
use Rattle.cudf_index.specs.Satisfaction.{is_below_one}
use Rattle.cudf_index.specs.Working.FirstPlaces.{number_meets}
use Rattle.cudf_index.specs.declared.index.gathered_names.Entries.{Entries}
use Rattle.cudf_index.specs.declared.index.gathered_names.Provision.{Provision}
use Rattle.cudf_index.specs.declared.index.named_trees.ProvisionTest.{ProvisionTest}
use Rattle.cudf_index.specs.declared.index.named_trees.ProvisionTest.TheVariants.{Meeting, Number, Version}

-- the provision is wanted
abbrev pub passes : ProvisionTest → Provision → Bool
passes (Meeting bound) g = number_meets bound g.number
passes (Number bound) g = option_map_or (meets bound) g.number false
passes Version g = g.is_version

-- one of those that were counted is
abbrev pub some_passes : ProvisionTest → Entries → Bool
some_passes (Meeting bound) e = nat_lt 0 (count_by (meets bound) e.numbers) || nat_lt 0 (if is_below_one bound then 0 else e.unversioned)
some_passes (Number bound) e = nat_lt 0 (count_by (meets bound) e.numbers)
some_passes Version e = e.is_package

-- the place is the last of these
abbrev pub ends_in : ℕ → List ℕ → Bool
ends_in place places = option_map_or (λ last. last == place) (slice_get places (length places - 1)) false

-- the place after the others, unless it is the last of them
abbrev pub with_new : List ℕ → ℕ → List ℕ
with_new places place = cond (ends_in place places) places (places ++ place ∷ [])

abbrev pub with_passing : ProvisionTest → List ℕ → Provision → List ℕ
with_passing w places g = cond (passes w g) (with_new places g.place) places

-- those of all that are wanted
abbrev pub with_all : ProvisionTest → List ℕ → List Provision → List ℕ
with_all w places row = fold (with_passing w) places row
