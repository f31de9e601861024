-- The values of a package's properties, beside its name and version, while they are gathered.
use Rattle.std.specs.Prelude.{ℕ, Bool, false, List, [], map, Option, Some, None, is_some, option_map, unwrap_or, bytes_eq, codes, if◌then◌else◌}
use Rattle.cudf_text.specs.declared.fault.Fault.{Fault}
use Rattle.cudf_text.specs.declared.fault.Kind.{Kind}
use Rattle.cudf_text.specs.declared.fault.Kind.TheVariants.{E8, E9}
use Rattle.cudf_text.specs.Stanzas.{PlainProperty}
use Rattle.cudf_value.specs.Vpkgs.{PlainVpkg}
use Rattle.cudf_value.specs.Formulas.{PlainAtom}
use Rattle.cudf_value.specs.Promises.Views.{formula_view}
use Rattle.cudf_value.specs.Declarations.{PlainDeclaration}
use Rattle.cudf_problem.specs.declared.package.Keep.{Keep as PlainKeep}
use Rattle.cudf_problem.specs.declared.package.Keep.TheVariants.{Nothing}
use Rattle.cudf_document.specs.declared.package.PackageProperty.{PackageProperty}
use Rattle.cudf_document.specs.declared.package.PackageProperty.TheVariants.{Depends, Conflicts, Provides, Installed, Keep, WasInstalled, Recommends}
use Rattle.cudf_document.specs.declared.package.PackageFields.{PackageFields}
use Rattle.cudf_problem.specs.Documents.{value_of}
use Rattle.cudf_problem.specs.Preamble.{recommends_in}
use Rattle.cudf_problem.specs.Universe.{PlainPackage}
use Rattle.cudf_document.specs.Working.Judging.{is_anything, own_recommends}
use Rattle.cudf_value.specs.Promises.Views.{list_view}
use Rattle.cudf_problem.specs.Ids.{Id}
use Rattle.cudf_value.specs.Types.{can_be}
use Rattle.cudf_problem.specs.Values.{truth_value, keep_value}
use Rattle.cudf_document.specs.Working.Reads.{formula_value, list_value, exact_list_value}
use Rattle.cudf_document.specs.Working.Tests.{Test, declared_test}
use Rattle.cudf_value.specs.Parts.{look_up}

-- ---- fields

abbrev pub package_property_named : List ℕ → Option PackageProperty
package_property_named name = if bytes_eq name (codes "depends") then Some Depends
    else (if bytes_eq name (codes "conflicts") then Some Conflicts
    else (if bytes_eq name (codes "provides") then Some Provides
    else (if bytes_eq name (codes "installed") then Some Installed
    else (if bytes_eq name (codes "keep") then Some Keep
    else (if bytes_eq name (codes "was-installed") then Some WasInstalled
    else (if bytes_eq name (codes "recommends") then Some Recommends
    else None))))))

-- what a property of the field, or else of the name, has to be, but the name and the version
abbrev pub package_property_test : List PlainDeclaration → Option PackageProperty → List ℕ → Option Test
package_property_test ds (Some Depends) name = Some (can_be formula_value)
package_property_test ds (Some Conflicts) name = Some (can_be list_value)
package_property_test ds (Some Provides) name = Some (can_be exact_list_value)
package_property_test ds (Some Installed) name = Some (can_be truth_value)
package_property_test ds (Some Keep) name = Some (can_be keep_value)
package_property_test ds (Some WasInstalled) name = Some is_anything
package_property_test ds (Some Recommends) name = look_up (codes "recommends") (map declared_test ds)
package_property_test ds None name = look_up name (map declared_test ds)

-- what is wrong with a property that occurs once: it isn't declared, or its value isn't of its type
abbrev pub wrong_kind : Option Test → List ℕ → Option Kind
wrong_kind None text = Some E8
wrong_kind (Some test) text = if test text then None else Some E9

-- the fault of a kind on a line
abbrev pub fault_on : ℕ → Option Kind → Option Fault
fault_on n kind = option_map (λ k. record { line = n; kind = k }) kind

-- ---- values

pub record PlainPackageFields : Type 0 where
  pub depends : Option (List (List PlainAtom))
  pub conflicts : Option (List PlainVpkg)
  pub provides : Option (List PlainVpkg)
  pub installed : Option Bool
  pub keep : Option PlainKeep
  pub recommends : Option (List (List PlainAtom))

abbrev pub package_fields_view : PackageFields → PlainPackageFields
package_fields_view v = record {
  depends = option_map formula_view v.depends;
  conflicts = option_map list_view v.conflicts;
  provides = option_map list_view v.provides;
  installed = v.installed;
  keep = v.keep;
  recommends = option_map formula_view v.recommends;
}

abbrev pub no_package_fields : PlainPackageFields
no_package_fields = record { depends = None; conflicts = None; provides = None; installed = None; keep = None; recommends = None }

-- what the first property of each name says
abbrev pub package_fields_of : List PlainDeclaration → List PlainProperty → PlainPackageFields
package_fields_of ds ps = record {
  depends = value_of formula_value (codes "depends") ps;
  conflicts = value_of list_value (codes "conflicts") ps;
  provides = value_of exact_list_value (codes "provides") ps;
  installed = value_of truth_value (codes "installed") ps;
  keep = value_of keep_value (codes "keep") ps;
  recommends = own_recommends ds ps;
}

-- the values, with what this text says of the field
abbrev pub with_package_property : List PlainDeclaration → Option PackageProperty → List ℕ → PlainPackageFields → PlainPackageFields
with_package_property ds (Some Depends) text v = record v { depends = formula_value text }
with_package_property ds (Some Conflicts) text v = record v { conflicts = list_value text }
with_package_property ds (Some Provides) text v = record v { provides = exact_list_value text }
with_package_property ds (Some Installed) text v = record v { installed = truth_value text }
with_package_property ds (Some Keep) text v = record v { keep = keep_value text }
with_package_property ds (Some WasInstalled) text v = v
with_package_property ds (Some Recommends) text v = record v { recommends = if is_some (recommends_in ds) then formula_value text else v.recommends }
with_package_property ds None text v = v

-- the package of these values, with this name and version
abbrev pub package_from : ℕ → PlainPackageFields → Id → PlainPackage
package_from line v id = record {
  line = line;
  name = id.0;
  version = id.1;
  depends = unwrap_or v.depends [];
  conflicts = unwrap_or v.conflicts [];
  provides = unwrap_or v.provides [];
  installed = unwrap_or v.installed false;
  keep = unwrap_or v.keep Nothing;
  recommends = v.recommends;
}
