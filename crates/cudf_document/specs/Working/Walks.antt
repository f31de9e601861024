-- What is known after some stanzas of a problem, on the walk.
use Rattle.std.specs.Prelude.{◌≡◌, ℕ, Bool, List, [], ◌++◌, filter_map, map, Option, Some, None}
use Rattle.std.specs.Borrow.{Bor}
use Rattle.std.specs.List.{list_any, flat_map}
use Rattle.cudf_text.specs.Stanzas.{PlainStanza, PlainText}
use Rattle.cudf_text.specs.declared.fault.Fault.{Fault}
use Rattle.cudf_value.specs.Declarations.{PlainDeclaration}
use Rattle.cudf_problem.specs.declared.problem.Mode.{Mode}
use Rattle.cudf_problem.specs.declared.problem.Postmark.{Postmark}
use Rattle.cudf_problem.specs.declared.problem.Postmark.TheVariants.{Package}
use Rattle.cudf_document.specs.declared.problem.walk.ProblemState.{ProblemState}
use Rattle.cudf_document.specs.Faults.{least}
use Rattle.cudf_problem.specs.Documents.{is_empty, with_earlier, is_request}
use Rattle.cudf_problem.specs.Ids.{Id, is_among, id_of}
use Rattle.cudf_document.specs.Working.Judging.{id_under, properties_faults}
use Rattle.cudf_problem.specs.Promises.Packages.{with_id, packages_in}
use Rattle.cudf_problem.specs.Preamble.{declared}
use Rattle.cudf_document.specs.ProblemFaults.{required_names, stanza_faults, problem_faults}
use Rattle.cudf_problem.specs.Universe.{package_id}
use Rattle.cudf_document.specs.Working.ProblemBuilders.{package_faults, first_ids}

-- the faults inside a stanza with a postmark, after these declarations, names and versions, where packages have to have
-- the required properties
abbrev pub judged_faults : Option Postmark → List (List ℕ) → List PlainDeclaration → List Id → PlainStanza → List Fault
judged_faults (Some Package) required ds ids s = package_faults required ds ids s
judged_faults (Some mark) required ds ids s = properties_faults [] (Some mark) s.properties
judged_faults None required ds ids s = []

-- the names and versions after it
abbrev pub judged_ids : Option Postmark → List Id → PlainStanza → List Id
judged_ids (Some Package) ids s = with_id ids (id_under (Some Package) s.properties)
judged_ids _ ids s = ids

-- the bytes of each
abbrev pub texts : List (Bor (List ℕ)) → List (List ℕ)
texts names = map (λ name. name.now) names

-- the first fault of these stanzas, their names and versions, and whether one is a request
pub record IsKnown (mode : Mode) (k : ProblemState) (before : List PlainStanza) : Type 0 where
  pub first_is : k.first ≡ least (flat_map (stanza_faults mode) (with_earlier [] before))
  pub ids_are : (id : Id) → is_among k.ids id ≡ is_among (filter_map id_of before) id
  pub listed_are : k.ids ≡ first_ids [] (map package_id (packages_in before))
  pub requested_is : k.requested ≡ list_any is_request before

-- and their declarations, and this was kept of them, unless there was a fault
pub record IsSoFar (mode : Mode) (IsKept : List PlainStanza → Type 0) (k : ProblemState) (before : List PlainStanza) : Type 0 where
  pub declared_are : k.declarations ≡ declared before
  pub known : IsKnown mode k before
  pub kept : k.first ≡ None → IsKept before

-- some stanzas of the text are known, which require these names, and these are left
pub record GoesOn (mode : Mode) (IsKept : List PlainStanza → Type 0) (k : ProblemState) (is_first : Bool) (required : List (List ℕ)) (left text : PlainText) : Type 0 where
  pub now : List PlainStanza
  pub first_is : is_first ≡ is_empty now
  pub required_are : required ≡ required_names mode (declared now)
  pub so_far : IsSoFar mode IsKept k now
  pub whole : ◌≡◌ {A = PlainText} (record left { stanzas = now ++ left.stanzas }) text

-- the whole text is known: its first fault, declarations, names and versions, and what was kept, unless it has a fault
pub record IsWhole (mode : Mode) (IsKept : List PlainStanza → Type 0) (k : ProblemState) (text : PlainText) : Type 0 where
  pub first_is : k.first ≡ least (problem_faults text mode)
  pub declared_are : k.declarations ≡ declared text.stanzas
  pub ids_are : (id : Id) → is_among k.ids id ≡ is_among (filter_map id_of text.stanzas) id
  pub listed_are : k.ids ≡ first_ids [] (map package_id (packages_in text.stanzas))
  pub kept : k.first ≡ None → IsKept text.stanzas
