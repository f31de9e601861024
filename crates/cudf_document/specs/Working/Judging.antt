-- What is judged of parts of a stanza: of its postmark, its place, or a property's name.
use Rattle.std.specs.Prelude.{ℕ, Bool, true, false, not, ◌&&◌, List, [], ◌++◌, Option, Some, None, is_none, is_some, find, option_map, bytes_eq, codes, if◌then◌else◌, unwrap_or}
use Rattle.std.specs.List.{list_all, flat_map, list_any}
use Rattle.std.specs.Option.{option_map_or, option_zip}
use Rattle.cudf_text.specs.declared.fault.Fault.{Fault}
use Rattle.cudf_text.specs.declared.fault.Kind.TheVariants.{E4, E5, E6}
use Rattle.cudf_text.specs.Chars.{trim}
use Rattle.cudf_text.specs.Stanzas.{PlainProperty, PlainStanza}
use Rattle.cudf_value.specs.Formulas.{PlainAtom}
use Rattle.cudf_value.specs.Types.{PlainType, is_of_type}
use Rattle.cudf_value.specs.Declarations.{PlainDeclaration}
use Rattle.cudf_problem.specs.declared.problem.Postmark.{Postmark}
use Rattle.cudf_problem.specs.declared.problem.Postmark.TheVariants.{Preamble, Package}
use Rattle.cudf_document.specs.Faults.{fault_if}
use Rattle.cudf_problem.specs.Documents.{is_request, is_empty, with_earlier, marks, value_of, has_name}
use Rattle.cudf_problem.specs.Ids.{Id}
use Rattle.cudf_problem.specs.Values.{name_value}
use Rattle.cudf_document.specs.Working.Reads.{formula_value, version_value}
use Rattle.cudf_document.specs.Working.Tests.{Test}
use Rattle.cudf_problem.specs.Preamble.{is_declarable, recommends_in, declared_by}
use Rattle.cudf_document.specs.ProblemFaults.{property_faults}
use Rattle.cudf_problem.specs.Universe.{PlainRequest, request_of}

-- the name and the version in these properties, where the postmark is a package's
abbrev pub id_under : Option Postmark → List PlainProperty → Option Id
id_under mark ps = if marks Package mark then option_zip (value_of name_value (codes "package") ps) (value_of version_value (codes "version") ps) else None

-- the faults of a stanza's properties
abbrev pub properties_faults : List PlainDeclaration → Option Postmark → List PlainProperty → List Fault
properties_faults ds mark ps = flat_map (property_faults ds mark) (with_earlier [] ps)

-- the faults of where a stanza is
abbrev pub placed_faults : Bool → Bool → Option Postmark → ℕ → List Fault
placed_faults is_first is_late mark line =
    fault_if (is_none mark) line E4 ++ fault_if (marks Preamble mark && not is_first) line E5 ++ fault_if is_late line E6

-- the faults of the place, or else those inside
abbrev pub faults_or : List Fault → List Fault → List Fault
faults_or place inner = if is_empty place then inner else place

abbrev pub same_name : PlainProperty → PlainProperty → Bool
same_name p q = bytes_eq p.name q.name

abbrev pub version_property : PlainStanza → Option PlainProperty
version_property s = find (has_name (codes "version")) s.properties

-- the line of a property, or 0
abbrev pub line_of : Option PlainProperty → ℕ
line_of p = option_map_or (λ q. q.line) p 0

-- for one of these names there is no property
abbrev pub lacks_one : List (List ℕ) → List PlainProperty → Bool
lacks_one names ps = list_any (λ name. not (list_any (has_name name) ps)) names

-- a package's own `recommends`, where that is declared to be a formula
abbrev pub own_recommends : List PlainDeclaration → List PlainProperty → Option (List (List PlainAtom))
own_recommends ds ps = if is_some (recommends_in ds) then value_of formula_value (codes "recommends") ps else None

-- what the first request stanza asks for
abbrev pub request_in : List PlainStanza → Option PlainRequest
request_in stanzas = option_map request_of (find is_request stanzas)

abbrev pub is_anything : Test
is_anything text = true

-- the value isn't what it has to be
abbrev pub fails : Option Test → List ℕ → Bool
fails test text = option_map_or (λ passes. not (passes text)) test false

-- the value isn't of its type
abbrev pub is_mistyped : Option PlainType → List ℕ → Bool
is_mistyped kind text = option_map_or (λ k. not (is_of_type k (trim text))) kind false

-- the name of a declared property that has no default
abbrev pub name_without_default : PlainDeclaration → Option (List ℕ)
name_without_default d = if is_none d.default then Some d.name else None

-- the name has a declaration among these
abbrev pub is_declared : List PlainDeclaration → List ℕ → Bool
is_declared ds name = list_any (λ d. bytes_eq name d.name) ds

-- what a property of the preamble adds to those before: a bad declaration adds nothing
abbrev pub added_by : List PlainDeclaration → PlainProperty → List PlainDeclaration
added_by before p = if has_name (codes "property") p then unwrap_or (declared_by before p.value) [] else []

-- each is allowed after those before, and after those that come before it
abbrev pub all_declarable : List PlainDeclaration → List PlainDeclaration → Bool
all_declarable before ds = list_all is_declarable (with_earlier before ds)
