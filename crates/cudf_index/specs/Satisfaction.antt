-- What a status gives, and when it satisfies a vpkg or a clause: CUDF 2.0, installations and features.
-- Own: an unversioned provision gives all positive integers, without an upper end.
use Rattle.std.specs.Prelude.{ℕ, Bool, true, false, not, ◌&&◌, ◌||◌, ◌==◌, List, [], ◌∷◌, bytes_eq, map, filter, find, Option, Some, None, is_none, option_map, filter_map, if◌then◌else◌}
use Rattle.std.specs.List.{list_any, flat_map, enumerate_from}
use Rattle.cudf_value.specs.declared.vpkg.Relop.{Relop}
use Rattle.cudf_value.specs.declared.vpkg.Relop.TheVariants.{Lt}
use Rattle.cudf_value.specs.Vpkgs.{PlainVpkg, meets}
use Rattle.cudf_value.specs.Formulas.{PlainAtom, truth_atom, falsehood_atom, named}
use Rattle.cudf_problem.specs.Ids.{Id}
use Rattle.cudf_problem.specs.Universe.{PlainPackage}

-- ---- statuses as lists of packages

-- a package beside its place in the universe, counted from 1
abbrev pub Placed : Type 0
Placed = ℕ × PlainPackage

-- the packages of a universe that a status holds, in the order of their places
abbrev pub members : (ℕ → Bool) → List PlainPackage → List Placed
members holds packages = filter (λ (place, p). holds place) (enumerate_from 1 packages)

-- a status less the package at one place
abbrev pub without : ℕ → List Placed → List Placed
without place status = filter (λ (other, p). not (other == place)) status

-- ---- what they give

-- the pair of an entry `f = n` of a package's `provides`
abbrev pub entry_pair : PlainVpkg → Option Id
entry_pair entry = option_map (λ bound. (entry.name, bound.1)) entry.bound

-- the name of an entry `f` without a number
abbrev pub unversioned_name : PlainVpkg → Option (List ℕ)
unversioned_name entry = if is_none entry.bound then Some entry.name else None

-- the pairs that a package gives: its own, and those of its versioned features
abbrev pub package_pairs : PlainPackage → List Id
package_pairs p = (p.name, p.version) ∷ filter_map entry_pair p.provides

-- the pairs that a status gives
abbrev pub gives : List Placed → List Id
gives status = flat_map (λ (place, p). package_pairs p) status

-- the names that a status gives at all versions
abbrev pub gives_all_versions : List Placed → List (List ℕ)
gives_all_versions status = flat_map (λ (place, p). filter_map unversioned_name p.provides) status

-- the numbers that a status gives of a name
abbrev pub numbers_of : List ℕ → List Placed → List ℕ
numbers_of name status = map (λ pair. pair.1) (filter (λ pair. bytes_eq pair.0 name) (gives status))

-- ---- satisfaction

-- the pair is of the vpkg's name, and its number meets the bound
abbrev pub is_met_by : PlainVpkg → Id → Bool
is_met_by v pair = bytes_eq pair.0 v.name && meets v.bound pair.1

-- the bound `< 1`, which no positive integer meets
abbrev pub is_below_one : Option (Relop × ℕ) → Bool
is_below_one (Some (Lt, n)) = n == 1
is_below_one _ = false

-- a pair of the status meets the vpkg, or the status gives its name at all versions, of which some meet the bound
abbrev pub satisfies : List Placed → PlainVpkg → Bool
satisfies status v =
    list_any (is_met_by v) (gives status)
    || (list_any (λ name. bytes_eq name v.name) (gives_all_versions status) && not (is_below_one v.bound))

-- the atom is `true!`, or a vpkg that the status satisfies
abbrev pub satisfies_atom : List Placed → PlainAtom → Bool
satisfies_atom status truth_atom = true
satisfies_atom status falsehood_atom = false
satisfies_atom status (named v) = satisfies status v

-- one of the atoms is satisfied
abbrev pub satisfies_clause : List Placed → List PlainAtom → Bool
satisfies_clause status clause = list_any (satisfies_atom status) clause

-- ---- the package that meets a vpkg

-- the package, alone, satisfies the vpkg
abbrev pub meets_alone : PlainVpkg → Placed → Bool
meets_alone v p = satisfies (p ∷ []) v

-- the package, alone, satisfies the clause; each does where an atom is `true!`
abbrev pub meets_clause_alone : List PlainAtom → Placed → Bool
meets_clause_alone clause p = satisfies_clause (p ∷ []) clause

-- the least place of a status whose package alone satisfies the vpkg
abbrev pub first_meeting : List Placed → PlainVpkg → Option ℕ
first_meeting status v = option_map (λ (place, p). place) (find (meets_alone v) status)

-- the least place of a status whose package alone satisfies the clause
abbrev pub first_satisfying : List Placed → List PlainAtom → Option ℕ
first_satisfying status clause = option_map (λ (place, p). place) (find (meets_clause_alone clause) status)

-- the least place of a status whose package has this name
abbrev pub first_named : List Placed → List ℕ → Option ℕ
first_named status name = option_map (λ (place, p). place) (find (λ (place, p). bytes_eq p.name name) status)
