-- What properties have to be, by how their values are read.
use Rattle.std.specs.Prelude.{ℕ, Bool, true, List, [], ◌∷◌, map, codes}
use Rattle.cudf_text.specs.Chars.{trim}
use Rattle.cudf_value.specs.Types.{PlainType, can_be, is_of_type}
use Rattle.cudf_value.specs.Declarations.{PlainDeclaration}
use Rattle.cudf_problem.specs.Values.{name_value, truth_value, keep_value}
use Rattle.cudf_document.specs.Working.Reads.{version_value, formula_value, list_value, exact_list_value}

-- the values of a type
abbrev pub Test : Type 0
Test = List ℕ → Bool

-- what a property of a type has to be
abbrev pub type_test : PlainType → Test
type_test kind text = is_of_type kind (trim text)

abbrev pub test_of : List ℕ × PlainType → List ℕ × Test
test_of (name, kind) = (name, type_test kind)

-- a declared property has to be of its declared type
abbrev pub declared_test : PlainDeclaration → List ℕ × Test
declared_test d = (d.name, type_test d.kind)

-- those of a package
abbrev pub package_tests : List PlainDeclaration → List (List ℕ × Test)
package_tests ds =
    (codes "package", can_be name_value)
    ∷ (codes "version", can_be version_value)
    ∷ (codes "depends", can_be formula_value)
    ∷ (codes "conflicts", can_be list_value)
    ∷ (codes "provides", can_be exact_list_value)
    ∷ (codes "installed", can_be truth_value)
    ∷ (codes "keep", can_be keep_value)
    ∷ (codes "was-installed", λ text. true)
    ∷ map declared_test ds

-- and those of a solution's package
abbrev pub read_tests : List (List ℕ × Test)
read_tests =
    (codes "package", can_be name_value)
    ∷ (codes "version", can_be version_value)
    ∷ (codes "installed", can_be truth_value)
    ∷ []
