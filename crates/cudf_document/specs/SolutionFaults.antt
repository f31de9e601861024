-- What is wrong with a proposed solution (own): of its packages three properties count, and stanzas may be in any order.
use Rattle.std.specs.Prelude.{ℕ, Bool, false, not, List, [], ◌∷◌, ◌++◌, ◌&&◌, ◌||◌, is_none, is_some, filter, Option, Some, option_to_list, if◌then◌else◌, bytes_eq, codes}
use Rattle.std.specs.List.{list_any, flat_map}
use Rattle.cudf_text.specs.declared.fault.Fault.{Fault}
use Rattle.cudf_text.specs.declared.fault.Kind.TheVariants.{E4, E7, E8, E15}
use Rattle.cudf_text.specs.Stanzas.{PlainProperty, PlainStanza, PlainText}
use Rattle.cudf_value.specs.Parts.{look_up}
use Rattle.cudf_value.specs.Types.{PlainType, is_one_of}
use Rattle.cudf_problem.specs.declared.problem.Mode.{Mode}
use Rattle.cudf_problem.specs.declared.problem.Mode.TheVariants.{Lenient, Strict}
use Rattle.cudf_problem.specs.declared.problem.Postmark.{Postmark}
use Rattle.cudf_problem.specs.declared.problem.Postmark.TheVariants.{Preamble, Package, Request}
use Rattle.cudf_document.specs.Faults.{fault_if}
use Rattle.cudf_problem.specs.Documents.{with_earlier, postmark, marks}
use Rattle.cudf_problem.specs.Values.{package_types}
use Rattle.cudf_problem.specs.Preamble.{reserved_names, declared_names}
use Rattle.cudf_document.specs.ProblemFaults.{repeats, mistyped_faults, unversioned_faults, is_reserved_but, misplaced_faults, repeated_package_faults}

-- the properties of packages that count, each with its type
abbrev pub solution_types : List (List ℕ × PlainType)
solution_types = filter (λ known. is_one_of (codes "package" ∷ codes "version" ∷ codes "installed" ∷ []) known.0) package_types

-- the faults of a property after those before it: E7, where its name counts, and E9
abbrev pub value_faults : List PlainProperty × PlainProperty → List Fault
value_faults (before, p) = fault_if (repeats before p && is_some (look_up p.name solution_types)) p.line E7 ++ mistyped_faults solution_types p

-- only the properties of packages count
abbrev pub values_faults : Option Postmark → List PlainProperty → List Fault
values_faults mark ps = if marks Package mark then flat_map value_faults (with_earlier [] ps) else []

-- E8, property not declared: strictly each of a package that has another name than the reserved ones and these
abbrev pub undeclared_in_solution : Mode → List (List ℕ) → Option Postmark → List PlainProperty → List Fault
undeclared_in_solution Lenient names mark ps = []
undeclared_in_solution Strict names mark ps = if marks Package mark
    then flat_map (λ p. fault_if (not (list_any (bytes_eq p.name) reserved_names || list_any (bytes_eq p.name) names)) p.line E8) ps else []

-- the names that have no meaning in a stanza of a solution: in a preamble or a request the reserved ones but its own
abbrev pub solution_misplaces : Option Postmark → List ℕ → Bool
solution_misplaces (Some Preamble) name = is_reserved_but (codes "preamble") name
solution_misplaces (Some Request) name = is_reserved_but (codes "request") name
solution_misplaces _ name = false

-- a stanza's faults, where these names are declared: E4, E7 and E9, E12, and strictly E16 and E8
abbrev pub solution_stanza_faults : Mode → List (List ℕ) → PlainStanza → List Fault
solution_stanza_faults mode names s =
    fault_if (is_none (postmark s)) s.line E4 ++ values_faults (postmark s) s.properties ++ unversioned_faults s
    ++ misplaced_faults mode (solution_misplaces (postmark s)) s.properties
    ++ undeclared_in_solution mode names (postmark s) s.properties

-- E15, pair repeated: only strictly a pair has to occur once, whether or not it is installed
abbrev pub repeated_pairs_faults : Mode → List PlainStanza → List Fault
repeated_pairs_faults Lenient ss = []
repeated_pairs_faults Strict ss = flat_map (repeated_package_faults E15) (with_earlier [] ss)

-- the faults of a solution of a problem that declares these names, in no order; the fault of a line is E2 or E3. The solution may
-- declare more names
unfoldable pub solution_faults : PlainText → Mode → List (List ℕ) → List Fault
solution_faults text mode names = repeated_pairs_faults mode text.stanzas ++ option_to_list text.fault
    ++ flat_map (solution_stanza_faults mode (names ++ declared_names text.stanzas)) text.stanzas
