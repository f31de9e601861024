-- What is wrong with a problem: each kind of fault, with its line (own). The rules that they break are
-- those of CUDF 2.0, syntax of documents and of stanzas, the preamble, package and request properties; that a property has
-- to be declared, and that some names can't be, is own.
use Rattle.std.specs.Prelude.{ℕ, Bool, false, not, ◌&&◌, max, List, [], ◌++◌, map, is_none, Option, Some, find, filter_map, option_to_list, if◌then◌else◌, bytes_eq, codes, is_some, ◌||◌}
use Rattle.std.specs.List.{list_any, flat_map}
use Rattle.std.specs.Option.{option_map_or}
use Rattle.cudf_text.specs.declared.fault.Fault.{Fault}
use Rattle.cudf_text.specs.declared.fault.Kind.{Kind}
use Rattle.cudf_text.specs.declared.fault.Kind.TheVariants.{E4, E5, E6, E7, E8, E9, E10, E11, E12, E13, E14, E16}
use Rattle.cudf_text.specs.Chars.{trim}
use Rattle.cudf_text.specs.Stanzas.{PlainProperty, PlainStanza, PlainText}
use Rattle.cudf_value.specs.Parts.{some_if, look_up}
use Rattle.cudf_value.specs.Types.{PlainType, is_of_type}
use Rattle.cudf_value.specs.Declarations.{PlainDeclaration}
use Rattle.cudf_problem.specs.declared.problem.Mode.{Mode}
use Rattle.cudf_problem.specs.declared.problem.Mode.TheVariants.{Lenient, Strict}
use Rattle.cudf_problem.specs.declared.problem.Postmark.{Postmark}
use Rattle.cudf_problem.specs.declared.problem.Postmark.TheVariants.{Preamble, Package, Request}
use Rattle.cudf_document.specs.Faults.{fault_if}
use Rattle.cudf_problem.specs.Documents.{is_empty, with_earlier, postmark, marks, is_request, has_name}
use Rattle.cudf_problem.specs.Ids.{id_of, is_known}
use Rattle.cudf_problem.specs.Values.{package_types, request_types}
use Rattle.cudf_problem.specs.Preamble.{reserved_names, declared_by, declared_after, declared}

-- ---- where a stanza is

-- E4, stanza without postmark; E5, preamble is not first; E6, stanza after the request
abbrev pub place_faults : List PlainStanza → PlainStanza → List Fault
place_faults before s = fault_if (is_none (postmark s)) s.line E4
    ++ fault_if (marks Preamble (postmark s) && not (is_empty before)) s.line E5 ++ fault_if (list_any is_request before) s.line E6

-- ---- properties, each after those before it in its stanza

-- a `property` of a preamble
abbrev pub declares : Option Postmark → PlainProperty → Bool
declares mark p = marks Preamble mark && has_name (codes "property") p

-- the names that are known in a stanza, each with its type
abbrev pub types_in : List PlainDeclaration → Option Postmark → List (List ℕ × PlainType)
types_in ds (Some Package) = package_types ++ map (λ d. (d.name, d.kind)) ds
types_in ds (Some Request) = request_types
types_in ds _ = []

-- an earlier property of the stanza has its name
abbrev pub repeats : List PlainProperty → PlainProperty → Bool
repeats before p = list_any (λ q. bytes_eq p.name q.name) before

-- E9, value is not of its type
abbrev pub mistyped_faults : List (List ℕ × PlainType) → PlainProperty → List Fault
mistyped_faults known p = fault_if (option_map_or (λ kind. not (is_of_type kind (trim p.value))) (look_up p.name known) false) p.line E9

-- the faults of a property after those before it: E7, property repeated, but for those that declare; E8, property not declared;
-- E9; E10, bad declaration
abbrev pub property_faults : List PlainDeclaration → Option Postmark → List PlainProperty × PlainProperty → List Fault
property_faults ds mark (before, p) =
    fault_if (repeats before p && not (declares mark p)) p.line E7
    ++ fault_if (marks Package mark && is_none (look_up p.name (types_in ds mark))) p.line E8 ++ mistyped_faults (types_in ds mark) p
    ++ fault_if (declares mark p && is_none (declared_by (declared_after [] before) p.value)) p.line E10

-- ---- packages

-- E11, package repeated, or another kind, on the line of the version: an earlier package has this name and version
abbrev pub repeated_package_faults : Kind → List PlainStanza × PlainStanza → List Fault
repeated_package_faults kind (before, s) =
    fault_if (is_known (filter_map id_of before) (id_of s)) (option_map_or (λ p. p.line) (find (has_name (codes "version")) s.properties) 0) kind

-- E12, no version
abbrev pub unversioned_faults : PlainStanza → List Fault
unversioned_faults s = fault_if (marks Package (postmark s) && is_none (find (has_name (codes "version")) s.properties)) s.last E12

-- ---- strictly, what a package has to say

-- the properties that each package has to have: those that are declared without a default
abbrev pub required_names : Mode → List PlainDeclaration → List (List ℕ)
required_names Lenient ds = []
required_names Strict ds = filter_map (λ d. some_if (is_none d.default) d.name) ds

-- E14, declared property missing
abbrev pub missing_faults : List (List ℕ) → PlainStanza → List Fault
missing_faults names s = fault_if (list_any (λ name. not (list_any (has_name name) s.properties)) names && marks Package (postmark s)) s.last E14

-- ---- strictly, what has no meaning where it is

-- a reserved name, other than this one
abbrev pub is_reserved_but : List ℕ → List ℕ → Bool
is_reserved_but own name = list_any (bytes_eq name) reserved_names && not (bytes_eq name own)

-- the names that have no meaning in a stanza of a problem: in a preamble the reserved ones but its own, in a request all but its
-- own and those that count
abbrev pub problem_misplaces : Option Postmark → List ℕ → Bool
problem_misplaces (Some Preamble) name = is_reserved_but (codes "preamble") name
problem_misplaces (Some Request) name = not (bytes_eq name (codes "request") || is_some (look_up name request_types))
problem_misplaces _ name = false

-- E16, property out of place: strictly each whose name has no meaning there
abbrev pub misplaced_faults : Mode → (List ℕ → Bool) → List PlainProperty → List Fault
misplaced_faults Lenient misplaces ps = []
misplaced_faults Strict misplaces ps = flat_map (λ p. fault_if (misplaces p.name) p.line E16) ps

-- ---- a stanza after those before it, and a problem

abbrev pub inner_faults : Mode → List PlainStanza → PlainStanza → List Fault
inner_faults mode before s =
    missing_faults (required_names mode (declared before)) s
    ++ flat_map (property_faults (declared before) (postmark s)) (with_earlier [] s.properties)
    ++ repeated_package_faults E11 (before, s) ++ unversioned_faults s
    ++ misplaced_faults mode (problem_misplaces (postmark s)) s.properties

-- a stanza in a wrong place has no other fault (own)
abbrev pub stanza_faults : Mode → List PlainStanza × PlainStanza → List Fault
stanza_faults mode (before, s) = if is_empty (place_faults before s) then inner_faults mode before s else place_faults before s

-- the faults of a problem, in no order: E2 or E3 of a line; those of its stanzas; E13, no request
unfoldable pub problem_faults : PlainText → Mode → List Fault
problem_faults text mode = option_to_list text.fault ++ flat_map (stanza_faults mode) (with_earlier [] text.stanzas)
    ++ fault_if (not (list_any is_request text.stanzas)) (max 1 text.lines) E13
