-- What follows from the definitions alone.
use Rattle.std.specs.Prelude.{◌≡◌, ◌≢◌, ◌⊎◌, Bool, true, false, not, ◌||◌, ℕ, List, [], ◌++◌, Option, Some, is_some, IsTrue, Contains, AllPairs, count_by}
use Rattle.std.specs.List.{All, list_all}
use Rattle.cudf_text.specs.declared.fault.Fault.{Fault}
use Rattle.cudf_text.specs.declared.fault.Kind.{Kind}
use Rattle.cudf_text.specs.declared.fault.Kind.TheVariants.{E8, E14, E15, E16}
use Rattle.cudf_text.specs.Stanzas.{PlainStanza, PlainText, plain_text}
use Rattle.cudf_problem.specs.declared.problem.Mode.{Mode}
use Rattle.cudf_problem.specs.declared.problem.Mode.TheVariants.{Lenient, Strict}
use Rattle.cudf_text.specs.Faults.{precedes}
use Rattle.cudf_document.specs.Faults.{least}
use Rattle.cudf_problem.specs.Promises.Packages.{is_package, packages_in}
use Rattle.cudf_problem.specs.Documents.{with_earlier, is_request}
use Rattle.cudf_problem.specs.Preamble.{declared}
use Rattle.cudf_document.specs.ProblemFaults.{stanza_faults, problem_faults, repeated_package_faults}
use Rattle.cudf_document.specs.SolutionFaults.{solution_stanza_faults, solution_faults}
use Rattle.cudf_document.specs.Details.{stanza_on, property_on}
use Rattle.cudf_problem.specs.Universe.{package_id, package_of}

-- f is one of the faults, and precedes every other one
abbrev pub IsFirst : List Fault → Fault → Type 0
IsFirst faults f = Contains faults f × ((g : Fault) → Contains faults g → (g ≡ f) ⊎ IsTrue (precedes f g))

-- the least fault is the first, and there is no other first one
abbrev pub LeastIsFirst : Type 0
LeastIsFirst = (faults : List Fault) (f : Fault) → (least faults ≡ Some f → IsFirst faults f) × (IsFirst faults f → least faults ≡ Some f)

-- each package stanza describes a package, no two packages have one name and version, and there is one request
pub record IsSound (text : PlainText) : Type 0 where
  pub described : list_all (λ s. not (is_package s) || is_some (package_of (declared text.stanzas) s)) text.stanzas ≡ true
  pub distinct : AllPairs (λ p q. package_id p ≢ package_id q) (packages_in text.stanzas)
  pub requested : count_by is_request text.stanzas ≡ 1

-- a well-formed problem has a universe and a request
abbrev pub FaultlessIsSound : Type 0
FaultlessIsSound = (text : PlainText) (mode : Mode) → problem_faults text mode ≡ [] → IsSound text

-- ---- modes

-- the kinds that are reported strictly alone, of a problem
abbrev pub is_strict_of_problem : Kind → Bool
is_strict_of_problem E14 = true
is_strict_of_problem E16 = true
is_strict_of_problem _ = false

-- of a solution
abbrev pub is_strict_of_solution : Kind → Bool
is_strict_of_solution E8 = true
is_strict_of_solution E15 = true
is_strict_of_solution E16 = true
is_strict_of_solution _ = false

-- and of both
abbrev pub is_strict : Kind → Bool
is_strict E14 = true
is_strict E15 = true
is_strict E16 = true
is_strict _ = false

-- a document's faults in both modes: strictly there are the lenient ones and some of these kinds. Leniently none is of
-- these, or of a kind that is reported strictly alone, but for the fault of a line, of which the text itself says what it is
pub record StrictAdds (is_added : Kind → Bool) (line : Option Fault) (lenient strict : List Fault) : Type 0 where
  pub kept : (f : Fault) → Contains lenient f → Contains strict f
  pub added : (f : Fault) → Contains strict f → Contains lenient f ⊎ IsTrue (is_added f.kind)
  pub lenient_kinds : (f : Fault) → Contains lenient f → (line ≡ Some f) ⊎ ((is_added f.kind || is_strict f.kind) ≡ false)
  pub faultless : strict ≡ [] → lenient ≡ []

-- strictly a problem has faults of the kinds E14 and E16 besides, and a solution, whatever names the problem declares,
-- faults of the kinds E8, E15 and E16
abbrev pub StrictAddsSomeKinds : Type 0
StrictAddsSomeKinds = (text : PlainText) (names : List (List ℕ))
    → StrictAdds is_strict_of_problem text.fault (problem_faults text Lenient) (problem_faults text Strict)
    × StrictAdds is_strict_of_solution text.fault (solution_faults text Lenient names) (solution_faults text Strict names)

-- ---- details

-- the stanza of the fault's line is this one, after those before it
abbrev pub IsFoundAt : List PlainStanza → List PlainStanza × PlainStanza → Fault → Type 0
IsFoundAt stanzas x f = stanza_on f.line stanzas ≡ Some x

-- the stanza of the line of a stanza's fault is that stanza, in a problem and in a solution, and the property of a
-- property's line is that property
pub record AllAreFound (stanzas : List PlainStanza) : Type 0 where
  pub problem : (mode : Mode) → All (λ x. All (IsFoundAt stanzas x) (stanza_faults mode x)) (with_earlier [] stanzas)
  pub solution : (mode : Mode) (names : List (List ℕ)) → All (λ x. All (IsFoundAt stanzas x) (solution_stanza_faults mode names x.1 ++ repeated_package_faults E15 x)) (with_earlier [] stanzas)
  pub property : All (λ x. All (λ y. property_on y.1.line x.1 ≡ Some y) (with_earlier [] x.1.properties)) (with_earlier [] stanzas)

-- so what a document says beside a fault is said of the stanza and of the property that have the fault
abbrev pub FaultsAreFound : Type 0
FaultsAreFound = (source : List ℕ) → AllAreFound (plain_text source).stanzas
