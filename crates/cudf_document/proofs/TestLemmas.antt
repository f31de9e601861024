-- A value is of a property's type where it can be read.
use Rattle.std.proofs.Common.{◌≡◌, ℕ, Bool, true, false, List, [], ◌∷◌, map, Option, None, Some, is_some, option_map, bytes_eq, codes, if◌then◌else◌, refl, ap, ◌∙◌}
use mathlib.Core.List.{map-map}
use Rattle.cudf_text.specs.Chars.{trim}
use Rattle.cudf_value.specs.Parts.{some_if, look_up}
use Rattle.cudf_value.specs.Words.{is_pkgname}
use Rattle.cudf_value.specs.Types.{PlainType, can_be, word_type, enum_type, is_one_of, is_of_type}
use Rattle.cudf_value.specs.Declarations.{PlainDeclaration}
use Rattle.cudf_problem.specs.declared.problem.Postmark.TheVariants.{Package as PackageMark}
use Rattle.cudf_problem.specs.Values.{name_value, keep_words, keep_value}
use Rattle.cudf_document.specs.ProblemFaults.{types_in}
use Rattle.cudf_document.specs.SolutionFaults.{solution_types}
use Rattle.cudf_document.specs.Working.Judging.{fails, is_mistyped}
use Rattle.cudf_document.specs.Working.Tests.{type_test, test_of, declared_test, package_tests, read_tests}
use Rattle.cudf_document.proofs.NameLemmas.{by_words, bytes_eq-sym}

-- a name
some_if-is : {A : Type 0} (b : Bool) (x : A) → b ≡ is_some (some_if b x)
some_if-is true x = refl
some_if-is false x = refl

name_test : (λ (text : List ℕ). is_of_type (word_type (codes "pkgname")) (trim text)) ≡ can_be name_value
name_test = λ i text. some_if-is (is_pkgname (trim text)) (trim text) i

-- a value of `keep`
abbrev keeps : List (List ℕ)
keeps = codes "version" ∷ codes "package" ∷ codes "feature" ∷ codes "none" ∷ []

keep_is : (text : List ℕ) → is_one_of keeps text ≡ is_some (look_up text keep_words)
keep_is text = by_words (λ t. is_one_of keeps t ≡ is_some (look_up t keep_words)) keeps text refl refl refl refl
    (λ a b c d. simp (a, b, c, d, bytes_eq-sym (codes "version") text, bytes_eq-sym (codes "package") text, bytes_eq-sym (codes "feature") text, bytes_eq-sym (codes "none") text))

keep_test : (λ (text : List ℕ). is_of_type (enum_type keeps) (trim text)) ≡ can_be keep_value
keep_test = λ i text. keep_is (trim text) i

-- the test of a name is that of its type
pub looked_up : (name : List ℕ) (known : List (List ℕ × PlainType)) → look_up name (map test_of known) ≡ option_map type_test (look_up name known)
looked_up name [] = refl
looked_up name ((word, kind) ∷ known) = by (bytes_eq name word) (looked_up name known)
  where
    by : (b : Bool) → look_up name (map test_of known) ≡ option_map type_test (look_up name known)
        → (if b then Some (type_test kind) else look_up name (map test_of known)) ≡ option_map type_test (if b then Some kind else look_up name known)
    by true rest = refl
    by false rest = rest

pub fails-mistyped : (kind : Option PlainType) (text : List ℕ) → fails (option_map type_test kind) text ≡ is_mistyped kind text
fails-mistyped None text = refl
fails-mistyped (Some kind) text = refl

-- a value fails the test of its name where it isn't of its type
pub fails-looked_up : (name text : List ℕ) (known : List (List ℕ × PlainType)) → fails (look_up name (map test_of known)) text ≡ is_mistyped (look_up name known) text
fails-looked_up name text known = ap (λ test. fails test text) (looked_up name known) ∙ fails-mistyped (look_up name known) text

declared_tests : (ds : List PlainDeclaration) → map test_of (map (λ d. (d.name, d.kind)) ds) ≡ map declared_test ds
declared_tests ds = map-map test_of (λ d. (d.name, d.kind)) ds

-- the tests of a package's properties
pub package_tests-are : (ds : List PlainDeclaration) → map test_of (types_in ds (Some PackageMark)) ≡ package_tests ds
package_tests-are ds = λ i.
    (codes "package", name_test i)
    ∷ (codes "version", λ text. is_of_type (word_type (codes "posint")) (trim text))
    ∷ (codes "depends", λ text. is_of_type (word_type (codes "vpkgformula")) (trim text))
    ∷ (codes "conflicts", λ text. is_of_type (word_type (codes "vpkglist")) (trim text))
    ∷ (codes "provides", λ text. is_of_type (word_type (codes "veqpkglist")) (trim text))
    ∷ (codes "installed", λ text. is_of_type (word_type (codes "bool")) (trim text))
    ∷ (codes "keep", keep_test i)
    ∷ (codes "was-installed", λ text. true)
    ∷ declared_tests ds i

-- and of those of a solution's package
pub read_tests-are : map test_of solution_types ≡ read_tests
read_tests-are = λ i.
    (codes "package", name_test i)
    ∷ (codes "version", λ text. is_of_type (word_type (codes "posint")) (trim text))
    ∷ (codes "installed", λ text. is_of_type (word_type (codes "bool")) (trim text))
    ∷ []
