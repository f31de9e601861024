-- The fields of a package.
use Rattle.std.proofs.Common.{◌≡◌, ℕ, Bool, true, false, List, [], ◌∷◌, ◌++◌, map, Option, None, Some, is_some, find, refl, sym, ap, subst, ◌∙◌, if◌then◌else◌, option_map, option_and_then, bytes_eq, codes}
use Rattle.std.specs.List.{list_any}
use Rattle.cudf_text.specs.declared.fault.Kind.TheVariants.{E7}
use Rattle.cudf_text.specs.Stanzas.{PlainProperty}
use Rattle.cudf_text.specs.Chars.{trim}
use Rattle.cudf_value.specs.Types.{can_be, PlainType, word_type, enum_type, is_of_type}
use Rattle.cudf_value.specs.Declarations.{PlainDeclaration}
use Rattle.cudf_problem.specs.declared.problem.Postmark.TheVariants.{Package as PackageMark}
use Rattle.cudf_document.specs.Faults.{least}
use Rattle.cudf_problem.specs.Documents.{value_of}
use Rattle.cudf_document.specs.Working.Judging.{same_name}
use Rattle.cudf_problem.specs.Values.{truth_value, keep_value}
use Rattle.cudf_document.specs.Working.Reads.{formula_value, list_value, exact_list_value}
use Rattle.cudf_document.specs.Working.Tests.{type_test, declared_test, package_tests}
use Rattle.cudf_value.specs.Parts.{look_up}
use Rattle.cudf_problem.specs.Preamble.{is_formula_type, recommends_in}
use Rattle.cudf_document.specs.ProblemFaults.{types_in, property_faults}
use Rattle.cudf_document.specs.Working.PackageFields.{PlainPackageFields, package_property_named, wrong_kind, fault_on, package_fields_of, with_package_property, no_package_fields}
use Rattle.cudf_document.proofs.NameLemmas.{same_bytes, by_words, value_of-repeated, value_next}
use Rattle.cudf_document.proofs.DeclarationLemmas.{test_of-declared}
use Rattle.cudf_document.proofs.PropertyLemmas.{package_property}
use Rattle.cudf_document.proofs.TestLemmas.{package_tests-are, looked_up}

abbrev words : List (List ℕ)
words = codes "depends" ∷ codes "conflicts" ∷ codes "provides" ∷ codes "installed" ∷ codes "keep" ∷ codes "was-installed" ∷ codes "recommends" ∷ []

-- ---- tests

formula_test : (d : PlainDeclaration) (kind : PlainType) → is_some (if is_formula_type kind then Some d else None) ≡ true → (λ (text : List ℕ). is_of_type kind (trim text)) ≡ can_be formula_value
formula_test d (word_type word) h = by (bytes_eq word (codes "vpkgformula")) refl h
  where
    by : (b : Bool) → bytes_eq word (codes "vpkgformula") ≡ b → is_some (if b then Some d else None) ≡ true
        → (λ (text : List ℕ). is_of_type (word_type word) (trim text)) ≡ can_be formula_value
    by true e h = subst (λ w. (λ (text : List ℕ). is_of_type (word_type w) (trim text)) ≡ can_be formula_value) (sym (same_bytes word (codes "vpkgformula") e)) refl
    by false e h = absurd cc
formula_test d (enum_type idents) h = absurd cc

-- where `recommends` is declared as a formula, it has to be one
pub recommends_test : (ds : List PlainDeclaration) → is_some (recommends_in ds) ≡ true → look_up (codes "recommends") (map declared_test ds) ≡ Some (can_be formula_value)
recommends_test ds h = test_of-declared (codes "recommends") ds ∙ by (find (λ d. bytes_eq (codes "recommends") d.name) ds) h
  where
    by : (x : Option PlainDeclaration) → is_some (option_and_then (λ d. if is_formula_type d.kind then Some d else None) x) ≡ true
        → option_map (λ d. (declared_test d).1) x ≡ Some (can_be formula_value)
    by None h = absurd cc
    by (Some d) h = ap (λ t. Some t) (formula_test d d.kind h)

-- ---- values

-- a repeated property changes no value
pub package_fields_of-repeated : (ds : List PlainDeclaration) (ps : List PlainProperty) (p : PlainProperty) → list_any (same_name p) ps ≡ true → package_fields_of ds (ps ++ p ∷ []) ≡ package_fields_of ds ps
package_fields_of-repeated ds ps p again = λ i. record {
  depends = value_of-repeated formula_value (codes "depends") ps p again i;
  conflicts = value_of-repeated list_value (codes "conflicts") ps p again i;
  provides = value_of-repeated exact_list_value (codes "provides") ps p again i;
  installed = value_of-repeated truth_value (codes "installed") ps p again i;
  keep = value_of-repeated keep_value (codes "keep") ps p again i;
  recommends = if is_some (recommends_in ds) then value_of-repeated formula_value (codes "recommends") ps p again i else None;
}

-- the values, each with what a text says of it, where the name is its own
abbrev says : List PlainDeclaration → List PlainProperty → List ℕ → List ℕ → PlainPackageFields
says ds ps text name = record {
  depends = if bytes_eq name (codes "depends") then formula_value text else value_of formula_value (codes "depends") ps;
  conflicts = if bytes_eq name (codes "conflicts") then list_value text else value_of list_value (codes "conflicts") ps;
  provides = if bytes_eq name (codes "provides") then exact_list_value text else value_of exact_list_value (codes "provides") ps;
  installed = if bytes_eq name (codes "installed") then truth_value text else value_of truth_value (codes "installed") ps;
  keep = if bytes_eq name (codes "keep") then keep_value text else value_of keep_value (codes "keep") ps;
  recommends = if is_some (recommends_in ds) then (if bytes_eq name (codes "recommends") then formula_value text else value_of formula_value (codes "recommends") ps) else None;
}

package_fields_of-says : (ds : List PlainDeclaration) (ps : List PlainProperty) (p : PlainProperty) → list_any (same_name p) ps ≡ false → package_fields_of ds (ps ++ p ∷ []) ≡ says ds ps p.value p.name
package_fields_of-says ds ps p new = λ i. record {
  depends = value_next formula_value (codes "depends") ps p new i;
  conflicts = value_next list_value (codes "conflicts") ps p new i;
  provides = value_next exact_list_value (codes "provides") ps p new i;
  installed = value_next truth_value (codes "installed") ps p new i;
  keep = value_next keep_value (codes "keep") ps p new i;
  recommends = if is_some (recommends_in ds) then value_next formula_value (codes "recommends") ps p new i else None;
}

recommends_says : {A : Type 0} (declared : Bool) (new old : Option A) → (if declared then new else (if declared then old else None)) ≡ (if declared then new else None)
recommends_says true new old = refl
recommends_says false new old = refl

-- what a text says of the field of a name
with_package_property-says : (ds : List PlainDeclaration) (ps : List PlainProperty) (text name : List ℕ) → with_package_property ds (package_property_named name) text (package_fields_of ds ps) ≡ says ds ps text name
with_package_property-says ds ps text name =
    by_words (λ n. with_package_property ds (package_property_named n) text (package_fields_of ds ps) ≡ says ds ps text n) words name
    refl refl refl refl refl refl
    (ap (λ r. record (package_fields_of ds ps) { recommends = r }) (recommends_says (is_some (recommends_in ds)) (formula_value text) (value_of formula_value (codes "recommends") ps)))
    (λ a b c d e f g. simp (a, b, c, d, e, f, g))

no_recommends : {A : Type 0} (declared : Bool) → ◌≡◌ {A = Option A} None (if declared then None else None)
no_recommends true = refl
no_recommends false = refl

pub package_fields_of-none : (ds : List PlainDeclaration) → no_package_fields ≡ package_fields_of ds []
package_fields_of-none ds = ap (λ r. record no_package_fields { recommends = r }) (no_recommends (is_some (recommends_in ds)))

pub package_fields_of-first : (ds : List PlainDeclaration) (ps : List PlainProperty) (p : PlainProperty) → list_any (same_name p) ps ≡ false
    → with_package_property ds (package_property_named p.name) p.value (package_fields_of ds ps) ≡ package_fields_of ds (ps ++ p ∷ [])
package_fields_of-first ds ps p new = with_package_property-says ds ps p.value p.name ∙ sym (package_fields_of-says ds ps p new)

-- ---- without what the package needs
-- ---- faults

-- what is wrong with one more property, repeated or not
pub package_fault : (ds : List PlainDeclaration) (ps : List PlainProperty) (p : PlainProperty) (again : Bool) → list_any (same_name p) ps ≡ again
    → fault_on p.line (if again then Some E7 else wrong_kind (look_up p.name (package_tests ds)) p.value) ≡ least (property_faults ds (Some PackageMark) (ps, p))
package_fault ds ps p again is =
    let test : look_up p.name (package_tests ds) ≡ option_map type_test (look_up p.name (types_in ds (Some PackageMark))) =
    ap (look_up p.name) (sym (package_tests-are ds)) ∙ looked_up p.name (types_in ds (Some PackageMark)) in
    (λ i. fault_on p.line (if sym is i then Some E7 else wrong_kind (test i) p.value))
    ∙ sym (package_property p.line (list_any (same_name p) ps) (look_up p.name (types_in ds (Some PackageMark))) p.value)
