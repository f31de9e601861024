-- What the stanzas of a problem say, while they are read.
use Rattle.std.specs.Prelude.{◌≡◌, ℕ, Bool, ◌&&◌, List, [], ◌∷◌, ◌++◌, map, filter_map, Option, Some, None, option_map, option_to_list, unwrap_or, is_some, is_none, bytes_eq, codes, if◌then◌else◌, false}
use Rattle.std.specs.List.{list_any}
use Rattle.indexmap.specs.IndexSet.{insert_key}
use Rattle.cudf_text.specs.declared.fault.Fault.{Fault}
use Rattle.cudf_text.specs.declared.fault.Kind.{Kind}
use Rattle.cudf_text.specs.declared.fault.Kind.TheVariants.{E7, E10, E11, E12, E14}
use Rattle.cudf_text.specs.Stanzas.{PlainProperty, PlainStanza}
use Rattle.cudf_value.specs.Declarations.{PlainDeclaration}
use Rattle.cudf_problem.specs.declared.problem.Postmark.{Postmark}
use Rattle.cudf_problem.specs.declared.problem.Postmark.TheVariants.{Preamble, Package, Request}
use Rattle.cudf_problem.specs.declared.package.Keep.TheVariants.{Nothing}
use Rattle.cudf_document.specs.Faults.{fault_if}
use Rattle.cudf_problem.specs.Documents.{has_name, value_of}
use Rattle.cudf_problem.specs.Ids.{Id, is_id, is_among, is_known, id_of}
use Rattle.cudf_problem.specs.Values.{truth_value, keep_value}
use Rattle.cudf_document.specs.Working.Judging.{request_in, id_under, properties_faults, line_of, lacks_one, own_recommends, version_property}
use Rattle.cudf_document.specs.Working.Reads.{formula_value, list_value, exact_list_value}
use Rattle.cudf_problem.specs.Promises.Packages.{with_id, packages_in}
use Rattle.cudf_problem.specs.Preamble.{declared_by, declared_after, declared, recommends_default}
use Rattle.cudf_problem.specs.Universe.{PlainPackage, package_id, PlainRequest, PlainProblem, request_of}

-- asks for nothing
abbrev pub no_request : PlainRequest
no_request = record { line = 0; install = []; remove = []; upgrade = [] }

-- the property is a bad declaration after those before
abbrev pub is_bad_declaration : List PlainDeclaration → PlainProperty → Bool
is_bad_declaration before p = has_name (codes "property") p && is_none (declared_by before p.value)

-- what is wrong with a preamble's property: it is a bad declaration, or else it is repeated
abbrev pub preamble_kind_after : List PlainDeclaration → List (List ℕ) → PlainProperty → Option Kind
preamble_kind_after ds names p = if has_name (codes "property") p then (if is_bad_declaration ds p then Some E10 else None)
    else (if list_any (bytes_eq p.name) names then Some E7 else None)

-- the package of this name and version, with the values of its other properties or their defaults
abbrev pub package_with : List PlainDeclaration → ℕ → List PlainProperty → Id → PlainPackage
package_with ds line ps (name, version) = record {
  line = line;
  name = name;
  version = version;
  depends = unwrap_or (value_of formula_value (codes "depends") ps) [];
  conflicts = unwrap_or (value_of list_value (codes "conflicts") ps) [];
  provides = unwrap_or (value_of exact_list_value (codes "provides") ps) [];
  installed = unwrap_or (value_of truth_value (codes "installed") ps) false;
  keep = unwrap_or (value_of keep_value (codes "keep") ps) Nothing;
  recommends = own_recommends ds ps;
}

pub record PlainBuilder : Type 0 where
  pub declared : List PlainDeclaration
  pub ids : List Id
  pub packages : List PlainPackage
  pub request : Option PlainRequest

-- what a preamble adds, where it is the first stanza
abbrev pub with_preamble : Bool → PlainStanza → PlainBuilder → PlainBuilder
with_preamble is_first s g = record g { declared = if is_first then declared_after [] s.properties else g.declared }

-- what a package adds
abbrev pub with_package : PlainStanza → PlainBuilder → PlainBuilder
with_package s g = record g {
  ids = with_id g.ids (id_under (Some Package) s.properties);
  packages = g.packages ++ option_to_list (option_map (package_with g.declared s.line s.properties) (id_under (Some Package) s.properties));
}

-- what a request adds, where it is the first
abbrev pub with_request : PlainStanza → PlainBuilder → PlainBuilder
with_request s g = record g { request = if is_some g.request then g.request else Some (request_of s) }

-- what any stanza adds
abbrev pub with_stanza : Option Postmark → Bool → PlainStanza → PlainBuilder → PlainBuilder
with_stanza (Some Preamble) is_first s g = with_preamble is_first s g
with_stanza (Some Package) is_first s g = with_package s g
with_stanza (Some Request) is_first s g = with_request s g
with_stanza None is_first s g = g

-- the faults of a package that has to have these properties, and of its name and version among others
abbrev pub package_faults : List (List ℕ) → List PlainDeclaration → List Id → PlainStanza → List Fault
package_faults required ds ids s =
    fault_if (lacks_one required s.properties) s.last E14
    ++ properties_faults ds (Some Package) s.properties
    ++ fault_if (is_known ids (id_under (Some Package) s.properties)) (line_of (version_property s)) E11
    ++ fault_if (is_none (version_property s)) s.last E12

-- the faults inside a stanza with a postmark
abbrev pub faults_inside : Option Postmark → List (List ℕ) → PlainBuilder → PlainStanza → List Fault
faults_inside (Some Package) required g s = package_faults required g.declared g.ids s
faults_inside (Some mark) required g s = properties_faults [] (Some mark) s.properties
faults_inside None required g s = []

-- ---- what is known after some stanzas

-- this was gathered of the stanzas
pub record IsBuilt (g : PlainBuilder) (before : List PlainStanza) : Type 0 where
  pub declared_are : g.declared ≡ declared before
  pub ids_are : (id : Id) → is_among g.ids id ≡ is_among (filter_map id_of before) id
  pub packages_are : g.packages ≡ packages_in before
  pub request_is : g.request ≡ request_in before

-- the pairs with these, each once, in the order in which they first came
abbrev pub first_ids : List Id → List Id → List Id
first_ids ids [] = ids
first_ids ids (id ∷ more) = first_ids (insert_key is_id ids id) more

-- the pairs are those of the packages
abbrev pub IsListed : PlainBuilder → Type 0
IsListed g = g.ids ≡ first_ids [] (map package_id g.packages)

-- the problem of what was gathered
abbrev pub problem_of : PlainBuilder → PlainProblem
problem_of g = record {
  packages = g.packages;
  request = unwrap_or g.request no_request;
  recommends = recommends_default g.declared;
  extra_names = map (λ d. d.name) g.declared;
}
