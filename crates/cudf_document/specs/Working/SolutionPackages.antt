-- The values of a solution's package while they are gathered.
use Rattle.std.specs.Prelude.{ℕ, Bool, true, false, List, Option, Some, None, is_some, option_copied, bytes_eq, codes, if◌then◌else◌}
use Rattle.std.specs.List.{list_any}
use Rattle.cudf_text.specs.declared.fault.Kind.{Kind}
use Rattle.cudf_text.specs.declared.fault.Kind.TheVariants.{E7, E9}
use Rattle.cudf_text.specs.Stanzas.{PlainProperty}
use Rattle.cudf_document.specs.declared.proposed.package.SolutionProperty.{SolutionProperty}
use Rattle.cudf_document.specs.declared.proposed.package.SolutionProperty.TheVariants.{Package, Version, Installed}
use Rattle.cudf_document.specs.declared.proposed.package.SolutionPackage.{SolutionPackage}
use Rattle.cudf_problem.specs.Documents.{has_name, value_of}
use Rattle.cudf_problem.specs.Values.{name_value, truth_value}
use Rattle.cudf_document.specs.Working.Reads.{version_value}

abbrev pub solution_property_named : List ℕ → Option SolutionProperty
solution_property_named name = if bytes_eq name (codes "package") then Some Package
    else (if bytes_eq name (codes "version") then Some Version
    else (if bytes_eq name (codes "installed") then Some Installed
    else None))

-- each value, and whether there is a property of its name
pub record PlainSolutionPackage : Type 0 where
  pub is_named : Bool
  pub name : Option (List ℕ)
  pub has_version : Bool
  pub version : Option ℕ
  pub has_installed : Bool
  pub installed : Option Bool

abbrev pub solution_package_view : SolutionPackage → PlainSolutionPackage
solution_package_view e = record {
  is_named = e.is_named;
  name = option_copied e.said.name;
  has_version = e.has_version;
  version = e.said.version;
  has_installed = e.has_installed;
  installed = e.said.installed;
}

-- what the first property of each name says
abbrev pub solution_package_of : List PlainProperty → PlainSolutionPackage
solution_package_of ps = record {
  is_named = list_any (has_name (codes "package")) ps;
  name = value_of name_value (codes "package") ps;
  has_version = list_any (has_name (codes "version")) ps;
  version = value_of version_value (codes "version") ps;
  has_installed = list_any (has_name (codes "installed")) ps;
  installed = value_of truth_value (codes "installed") ps;
}

-- what a text says, where nothing was said before
abbrev pub said_once : {A : Type 0} → (List ℕ → Option A) → List ℕ → Bool → Option A → Option A
said_once read text said before = if said then before else read text

-- the entry, with what this text says of a property that counts
abbrev pub with_solution_property : Option SolutionProperty → List ℕ → PlainSolutionPackage → PlainSolutionPackage
with_solution_property (Some Package) text e = record e { is_named = true; name = said_once name_value text e.is_named e.name }
with_solution_property (Some Version) text e = record e { has_version = true; version = said_once version_value text e.has_version e.version }
with_solution_property (Some Installed) text e = record e { has_installed = true; installed = said_once truth_value text e.has_installed e.installed }
with_solution_property None text e = e

-- what is wrong with a value: it is repeated, or not of its type
abbrev pub once_kind : {A : Type 0} → (List ℕ → Option A) → List ℕ → Bool → Option Kind
once_kind read text said = if said then Some E7 else (if is_some (read text) then None else Some E9)

abbrev pub solution_kind : Option SolutionProperty → List ℕ → PlainSolutionPackage → Option Kind
solution_kind (Some Package) text e = once_kind name_value text e.is_named
solution_kind (Some Version) text e = once_kind version_value text e.has_version
solution_kind (Some Installed) text e = once_kind truth_value text e.has_installed
solution_kind None text e = None

-- the entry with what a property says, and what is wrong with that
abbrev pub with_property : PlainProperty → PlainSolutionPackage → PlainSolutionPackage
with_property p e = with_solution_property (solution_property_named p.name) p.value e

abbrev pub solution_kind_of : PlainProperty → PlainSolutionPackage → Option Kind
solution_kind_of p e = solution_kind (solution_property_named p.name) p.value e
