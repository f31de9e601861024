-- The packages and the request that a problem describes: CUDF 2.0, universes, package and request properties with their defaults.
-- These definitions mean something only for a well-formed problem; for any other they have a value that nothing uses.
use Rattle.std.specs.Prelude.{ℕ, ◌-◌, ◌==◌, Bool, false, List, [], Option, None, is_some, find, filter_map, slice_get, unwrap_or, option_map, codes, if◌then◌else◌}
use Rattle.cudf_text.specs.Stanzas.{PlainStanza, PlainText}
use Rattle.cudf_value.specs.Parts.{trimmed}
use Rattle.cudf_value.specs.Vpkgs.{PlainVpkg}
use Rattle.cudf_value.specs.Formulas.{PlainAtom, formula, vpkglist, veqpkglist}
use Rattle.cudf_value.specs.Declarations.{PlainDeclaration}
use Rattle.cudf_problem.specs.declared.package.Keep.{Keep}
use Rattle.cudf_problem.specs.declared.package.Keep.TheVariants.{Nothing}
use Rattle.cudf_problem.specs.Documents.{value_of, is_request}
use Rattle.cudf_problem.specs.Ids.{Id, id_of}
use Rattle.cudf_problem.specs.Values.{truth_value, keep_value}
use Rattle.cudf_problem.specs.Preamble.{declared, declared_names, recommends_in, recommends_default}

-- ---- packages

-- a package, wherever it lies in memory
pub record PlainPackage : Type 0 where
  pub line : ℕ
  pub name : List ℕ
  pub version : ℕ
  pub depends : List (List PlainAtom)
  pub conflicts : List PlainVpkg
  pub provides : List PlainVpkg
  pub installed : Bool
  pub keep : Keep
  pub recommends : Option (List (List PlainAtom))

abbrev pub package_id : PlainPackage → Id
package_id p = (p.name, p.version)

-- the package that a stanza describes, if it is a package stanza with a name and a version, with the values of its other
-- properties or their defaults; it has `recommends` of its own where that is declared to be a formula
abbrev pub package_of : List PlainDeclaration → PlainStanza → Option PlainPackage
package_of ds s = option_map (λ id. record {
  line = s.line;
  name = id.0;
  version = id.1;
  depends = unwrap_or (value_of (trimmed formula) (codes "depends") s.properties) [];
  conflicts = unwrap_or (value_of (trimmed vpkglist) (codes "conflicts") s.properties) [];
  provides = unwrap_or (value_of (trimmed veqpkglist) (codes "provides") s.properties) [];
  installed = unwrap_or (value_of truth_value (codes "installed") s.properties) false;
  keep = unwrap_or (value_of keep_value (codes "keep") s.properties) Nothing;
  recommends = if is_some (recommends_in ds) then value_of (trimmed formula) (codes "recommends") s.properties else None;
}) (id_of s)

-- ---- the request

pub record PlainRequest : Type 0 where
  pub line : ℕ
  pub install : List PlainVpkg
  pub remove : List PlainVpkg
  pub upgrade : List PlainVpkg

abbrev pub request_of : PlainStanza → PlainRequest
request_of s = record {
  line = s.line;
  install = unwrap_or (value_of (trimmed vpkglist) (codes "install") s.properties) [];
  remove = unwrap_or (value_of (trimmed vpkglist) (codes "remove") s.properties) [];
  upgrade = unwrap_or (value_of (trimmed vpkglist) (codes "upgrade") s.properties) [];
}

-- ---- the problem

pub record PlainProblem : Type 0 where
  pub packages : List PlainPackage
  pub request : PlainRequest
  -- the declared default of `recommends`
  pub recommends : Option (List (List PlainAtom))
  -- the names of the extra properties that the preamble declares
  pub extra_names : List (List ℕ)

unfoldable pub plain_problem : PlainText → PlainProblem
plain_problem text = record {
  packages = filter_map (package_of (declared text.stanzas)) text.stanzas;
  -- where there is none, which is a fault, one that asks for nothing
  request = unwrap_or (option_map request_of (find is_request text.stanzas)) (record { line = 0; install = []; remove = []; upgrade = [] });
  recommends = recommends_default (declared text.stanzas);
  extra_names = declared_names text.stanzas;
}

-- ---- places

-- the package at a place, counted from 1
abbrev pub package_at : PlainProblem → ℕ → Option PlainPackage
package_at problem place = if place == 0 then None else slice_get problem.packages (place - 1)
