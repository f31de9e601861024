-- What is counted of the packages that give a name (own).
use Rattle.std.specs.Prelude.{◌≡◌, ℕ, ◌==◌, ◌+◌, ◌*◌, ◌-◌, ◌≤◌, Bool, false, not, List, [], ◌∷◌, ◌++◌, filter_map, length, Option, if◌then◌else◌, option_to_list, slice_get}
use Rattle.std.specs.List.{count_by, list_any}
use Rattle.std.specs.Option.{option_map_or}
use Rattle.cudf_value.specs.declared.vpkg.Relop.{Relop}
use Rattle.cudf_index.specs.Promises.Counts.{count_pairs, differ}
use Rattle.cudf_index.specs.Promises.Places.{gives_number}
use Rattle.cudf_index.specs.Satisfaction.{Placed, is_below_one, meets_alone}
use Rattle.cudf_index.specs.Working.NumbersByPackage.{count_over, is_same, sole_number}
use Rattle.cudf_index.specs.Working.ProvisionTest.{passes}
use Rattle.cudf_index.specs.declared.index.extents.NumbersByPackage.{NumbersByPackage}
use Rattle.cudf_index.specs.declared.index.counts.PackageNumbers.{PackageNumbers}
use Rattle.cudf_index.specs.declared.index.gathered_names.Provision.{Provision}
use Rattle.cudf_index.specs.declared.index.counts.Gathering.{Gathering}
use Rattle.cudf_index.specs.declared.index.counts.Givers.{Givers}
use Rattle.cudf_index.specs.declared.index.named_trees.ProvisionTest.TheVariants.{Meeting, Number}

-- ---- a row by packages

-- the next provision is of the same place
abbrev pub continues : ℕ → List Provision → Bool
continues place [] = false
continues place (g ∷ gs) = place == g.place

-- the provision in the first run, before the others
abbrev pub with_first : Provision → List (List Provision) → List (List Provision)
with_first g [] = (g ∷ []) ∷ []
with_first g (run ∷ rest) = (g ∷ run) ∷ rest

-- a row, cut where another place begins
abbrev pub runs : List Provision → List (List Provision)
runs [] = []
runs (g ∷ gs) = if continues g.place gs then with_first g (runs gs) else (g ∷ []) ∷ runs gs

-- the numbers that provisions give
abbrev pub numbers_given : List Provision → List ℕ
numbers_given run = filter_map (λ g. g.number) run

-- two packages, or one with itself, give two different of these numbers
abbrev pub numbers_differ : List ℕ → List ℕ → Bool
numbers_differ ms ns = list_any (λ m. list_any (λ n. not (m == n)) ns) ms

-- the same of runs
abbrev pub runs_differ : List Provision → List Provision → Bool
runs_differ run other = numbers_differ (numbers_given run) (numbers_given other)

-- ---- the numbers of packages

-- of packages that give numbers: how many give one that meets the bound
abbrev pub count_within : Option (Relop × ℕ) → NumbersByPackage → ℕ
count_within bound e = count_over bound e.least e.greatest e.each e.only

abbrev pub count_gathered : Option (Relop × ℕ) → PackageNumbers → ℕ
count_gathered bound u = count_over bound u.least.items u.greatest.items u.each.items u.only.items

-- a package more, whose numbers ascend
pub record Adds (numbers : List ℕ) (old new : PackageNumbers) : Type 0 where
  pub least : new.least.items ≡ old.least.items ++ option_to_list (slice_get numbers 0)
  pub greatest : new.greatest.items ≡ old.greatest.items ++ option_to_list (slice_get numbers (length numbers - 1))
  pub each : new.each.items ≡ old.each.items ++ numbers
  pub only : new.only.items ≡ old.only.items ++ option_to_list (sole_number numbers)

-- the same in order
pub record Sorts (u : PackageNumbers) (e : NumbersByPackage) : Type 0 where
  pub within : (bound : Option (Relop × ℕ)) → count_within bound e ≡ count_gathered bound u
  pub pairs : count_pairs is_same e.only ≡ count_pairs is_same u.only.items

-- the runs so far are gathered
pub record Gathers (done : List (List Provision)) (g : Gathering) : Type 0 where
  pub within : (bound : Option (Relop × ℕ)) → count_gathered bound g.numbers ≡ count_by (list_any (passes (Number bound))) done
  pub pairs : 2 * (count_pairs runs_differ done + count_pairs is_same g.numbers.only.items) ≡ length g.numbers.least.items * length g.numbers.least.items + length g.numbers.least.items
  pub fewer : length g.numbers.only.items ≤ length g.numbers.least.items
  pub meeting : (bound : Option (Relop × ℕ)) → is_below_one bound ≡ false → g.unversioned + count_gathered bound g.pure ≡ count_by (list_any (passes (Meeting bound))) done
  pub pure_fewer : length g.pure.only.items ≤ length g.pure.least.items

-- ---- what is counted

-- how many give a number, or all versions, that meets the bound
abbrev pub count_meeting : Option (Relop × ℕ) → Givers → ℕ
count_meeting bound g = if is_below_one bound then count_within bound g.numbers else g.unversioned + count_within bound g.pure

-- what is counted of runs
pub record Counted (done : List (List Provision)) (g : Givers) : Type 0 where
  pub meeting : (bound : Option (Relop × ℕ)) → count_meeting bound g ≡ count_by (list_any (passes (Meeting bound))) done
  pub giving : (bound : Option (Relop × ℕ)) → count_within bound g.numbers ≡ count_by (list_any (passes (Number bound))) done
  pub differing : g.differing ≡ count_pairs runs_differ done

-- what is counted of a name is what the packages of the status give of it; of a name that isn't counted they give nothing
pub record CountsOf (name : List ℕ) (status : List Placed) (counted : Option Givers) : Type 0 where
  pub meeting : (bound : Option (Relop × ℕ)) → option_map_or (count_meeting bound) counted 0 ≡ count_by (meets_alone (record { name = name; bound = bound })) status
  pub giving : (bound : Option (Relop × ℕ)) → option_map_or (λ g. count_within bound g.numbers) counted 0 ≡ count_by (gives_number name bound) status
  pub differing : option_map_or (λ g. g.differing) counted 0 ≡ count_pairs (differ name) status
