-- The values of a solution's package.
use Rattle.std.proofs.Common.{◌≡◌, ℕ, Bool, true, false, not, ◌||◌, ◌&&◌, List, [], ◌∷◌, ◌++◌, Option, None, Some, is_some, option_map, refl, sym, ap, ◌∙◌, if◌then◌else◌, bytes_eq, codes}
use Rattle.std.proofs.Math.Bool.{or-true, or-false, and-false}
use Rattle.std.proofs.lemmas.List.Folds.{list_any-append}
use Rattle.std.specs.List.{list_any, flat_map}
use Rattle.cudf_text.specs.declared.fault.Fault.{Fault}
use Rattle.cudf_text.specs.declared.fault.Kind.TheVariants.{E7, E9}
use Rattle.cudf_text.specs.Stanzas.{PlainProperty}
use Rattle.cudf_document.specs.Faults.{lesser, least, fault_if}
use Rattle.cudf_problem.specs.Documents.{with_earlier, has_name, value_of}
use Rattle.cudf_document.specs.Working.Judging.{same_name, fails, is_mistyped}
use Rattle.cudf_value.specs.Parts.{look_up}
use Rattle.cudf_value.specs.Types.{PlainType}
use Rattle.cudf_problem.specs.Values.{name_value, truth_value}
use Rattle.cudf_document.specs.Working.Reads.{version_value}
use Rattle.cudf_document.specs.ProblemFaults.{repeats}
use Rattle.cudf_document.specs.SolutionFaults.{solution_types, value_faults}
use Rattle.cudf_document.specs.Working.Tests.{Test, type_test, read_tests}
use Rattle.cudf_document.specs.Working.PackageFields.{fault_on}
use Rattle.cudf_document.specs.Working.SolutionPackages.{PlainSolutionPackage, solution_property_named, solution_package_of, with_solution_property, solution_kind}
use Rattle.cudf_document.proofs.FaultLemmas.{faults-next}
use Rattle.cudf_document.proofs.NameLemmas.{by_words, bytes_same, has_same_name, value_next, value_of-repeated}
use Rattle.cudf_document.proofs.PropertyLemmas.{counted_property}
use Rattle.cudf_document.proofs.TestLemmas.{looked_up, read_tests-are}

abbrev words : List (List ℕ)
words = codes "package" ∷ codes "version" ∷ codes "installed" ∷ []

-- the entry, each value with what a text says of it, where the name is its own
abbrev says : List PlainProperty → List ℕ → List ℕ → PlainSolutionPackage
says ps text name = record {
  is_named = list_any (has_name (codes "package")) ps || bytes_eq name (codes "package");
  name = if bytes_eq name (codes "package") then (if list_any (has_name (codes "package")) ps then value_of name_value (codes "package") ps else name_value text)
      else value_of name_value (codes "package") ps;
  has_version = list_any (has_name (codes "version")) ps || bytes_eq name (codes "version");
  version = if bytes_eq name (codes "version") then (if list_any (has_name (codes "version")) ps then value_of version_value (codes "version") ps else version_value text)
      else value_of version_value (codes "version") ps;
  has_installed = list_any (has_name (codes "installed")) ps || bytes_eq name (codes "installed");
  installed = if bytes_eq name (codes "installed") then (if list_any (has_name (codes "installed")) ps then value_of truth_value (codes "installed") ps else truth_value text)
      else value_of truth_value (codes "installed") ps;
}

with_solution_property-says : (ps : List PlainProperty) (text name : List ℕ) → with_solution_property (solution_property_named name) text (solution_package_of ps) ≡ says ps text name
with_solution_property-says ps text name =
    by_words (λ n. with_solution_property (solution_property_named n) text (solution_package_of ps) ≡ says ps text n) words name
    (simp (or-true, or-false)) (simp (or-true, or-false)) (simp (or-true, or-false)) (λ a b c. simp (a, b, c, or-false))

-- the value of a name after one more property
value_after : {A : Type 0} (read : List ℕ → Option A) (name : List ℕ) (ps : List PlainProperty) (p : PlainProperty)
    → (if bytes_eq p.name name then (if list_any (has_name name) ps then value_of read name ps else read p.value) else value_of read name ps)
    ≡ value_of read name (ps ++ p ∷ [])
value_after {A} read name ps p = by (bytes_eq p.name name) (list_any (same_name p) ps) refl refl
  where
    by : (same again : Bool) → bytes_eq p.name name ≡ same → list_any (same_name p) ps ≡ again
        → (if same then (if list_any (has_name name) ps then value_of read name ps else read p.value) else value_of read name ps)
        ≡ value_of read name (ps ++ p ∷ [])
    by true true same again = rw (← has_same_name name p ps same, again) (sym (value_of-repeated read name ps p again))
    by true false same again = rw (← has_same_name name p ps same, again) (sym (rw same at (value_next read name ps p again)))
    by false true same again = sym (value_of-repeated read name ps p again)
    by false false same again = sym (rw same at (value_next read name ps p again))

named_after : (name : List ℕ) (ps : List PlainProperty) (p : PlainProperty) → (list_any (has_name name) ps || bytes_eq p.name name) ≡ list_any (has_name name) (ps ++ p ∷ [])
named_after name ps p =
    ap (λ b. list_any (has_name name) ps || b) (sym (or-false (bytes_eq p.name name))) ∙ sym (list_any-append (has_name name) ps (p ∷ []))

solution_package_of-next : (ps : List PlainProperty) (p : PlainProperty) → with_solution_property (solution_property_named p.name) p.value (solution_package_of ps) ≡ solution_package_of (ps ++ p ∷ [])
solution_package_of-next ps p = with_solution_property-says ps p.value p.name ∙ (λ i. record {
  is_named = named_after (codes "package") ps p i;
  name = value_after name_value (codes "package") ps p i;
  has_version = named_after (codes "version") ps p i;
  version = value_after version_value (codes "version") ps p i;
  has_installed = named_after (codes "installed") ps p i;
  installed = value_after truth_value (codes "installed") ps p i;
})

-- the faults of a property, where it has to pass a test if it counts
abbrev faults_by : Option Test → List PlainProperty → PlainProperty → List Fault
faults_by test before p = fault_if (repeats before p && is_some test) p.line E7 ++ fault_if (fails test p.value) p.line E9

-- where the test is that of its type
faults_by-type : (kind : Option PlainType) (before : List PlainProperty) (p : PlainProperty)
    → faults_by (option_map type_test kind) before p ≡ fault_if (repeats before p && is_some kind) p.line E7 ++ fault_if (is_mistyped kind p.value) p.line E9
faults_by-type None before p = refl
faults_by-type (Some kind) before p = refl

-- the fault of a property, by what was said before it
fault_by : (ps : List PlainProperty) (line : ℕ) (value : List ℕ) (name : List ℕ)
    → fault_on line (solution_kind (solution_property_named name) value (solution_package_of ps)) ≡ least (faults_by (look_up name read_tests) ps (record { line = line; name = name; value = value }))
fault_by ps line value name =
    by_words (λ n. fault_on line (solution_kind (solution_property_named n) value (solution_package_of ps)) ≡ least (faults_by (look_up n read_tests) ps (record { line = line; name = n; value = value }))) words name
    (known (codes "package") (is_some (name_value value))) (known (codes "version") (is_some (version_value value))) (known (codes "installed") (is_some (truth_value value)))
    (λ a b c. simp (a, b, c, and-false))
  where
    known : (word : List ℕ) (fits : Bool) → fault_on line (if list_any (has_name word) ps then Some E7 else (if fits then None else Some E9))
        ≡ least (fault_if (list_any (same_name (record { line = line; name = word; value = value })) ps && true) line E7 ++ fault_if (not fits) line E9)
    known word fits =
        let p : PlainProperty = record { line = line; name = word; value = value } in
        rw (← has_same_name word p ps (bytes_same word)) (sym (counted_property line (list_any (same_name p) ps) fits))

counted_fault : (ps : List PlainProperty) (line : ℕ) (value : List ℕ) (name : List ℕ)
    → fault_on line (solution_kind (solution_property_named name) value (solution_package_of ps)) ≡ least (value_faults (ps, record { line = line; name = name; value = value }))
counted_fault ps line value name =
    let p : PlainProperty = record { line = line; name = name; value = value } in
    fault_by ps line value name
    ∙ ap (λ test. least (faults_by test ps p)) (ap (look_up name) (sym read_tests-are) ∙ looked_up name solution_types)
    ∙ ap least (faults_by-type (look_up name solution_types) ps p)

-- what is known of the properties so far
pub record IsEnteredTo (ps : List PlainProperty) (first : Option Fault) (entry : PlainSolutionPackage) : Type 0 where
  pub first_is : first ≡ least (flat_map value_faults (with_earlier [] ps))
  pub entry_is : entry ≡ solution_package_of ps

-- one more property
pub IsEnteredTo-next : (ps : List PlainProperty) (first : Option Fault) (entry : PlainSolutionPackage) (p : PlainProperty)
    (more : List PlainProperty) (fault new_first : Option Fault) (new : PlainSolutionPackage)
    → IsEnteredTo ps first entry → more ≡ ps ++ p ∷ []
    → fault ≡ fault_on p.line (solution_kind (solution_property_named p.name) p.value entry) → new_first ≡ lesser first fault → new ≡ with_solution_property (solution_property_named p.name) p.value entry
    → IsEnteredTo more new_first new
IsEnteredTo-next ps first entry p more fault new_first new so_far more_is fault_is lesser_is new_is = record {
  first_is = lesser_is ∙ faults-next value_faults ps p first fault so_far.first_is
      (fault_is ∙ ap (λ e. fault_on p.line (solution_kind (solution_property_named p.name) p.value e)) so_far.entry_is ∙ counted_fault ps p.line p.value p.name)
      ∙ ap (λ qs. least (flat_map value_faults (with_earlier [] qs))) (sym more_is);
  entry_is = new_is ∙ ap (with_solution_property (solution_property_named p.name) p.value) so_far.entry_is ∙ solution_package_of-next ps p ∙ ap solution_package_of (sym more_is);
}
