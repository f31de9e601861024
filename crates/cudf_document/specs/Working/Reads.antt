-- How the values of properties are read, by their types.
use Rattle.std.specs.Prelude.{ℕ, List, Option}
use Rattle.cudf_value.specs.Parts.{trimmed}
use Rattle.cudf_value.specs.Numbers.{positive}
use Rattle.cudf_value.specs.Vpkgs.{PlainVpkg}
use Rattle.cudf_value.specs.Formulas.{PlainAtom, formula, vpkglist, veqpkglist}

abbrev pub version_value : List ℕ → Option ℕ
version_value = trimmed positive

abbrev pub formula_value : List ℕ → Option (List (List PlainAtom))
formula_value = trimmed formula

abbrev pub list_value : List ℕ → Option (List PlainVpkg)
list_value = trimmed vpkglist

abbrev pub exact_list_value : List ℕ → Option (List PlainVpkg)
exact_list_value = trimmed veqpkglist
