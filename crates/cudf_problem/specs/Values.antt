-- The types of the properties that CUDF knows: CUDF 2.0, package and request properties.
use Rattle.std.specs.Prelude.{ℕ, Bool, List, [], ◌∷◌, map, Option, codes}
use Rattle.cudf_value.specs.Parts.{some_if, trimmed, look_up}
use Rattle.cudf_value.specs.Words.{truth, is_pkgname}
use Rattle.cudf_value.specs.Types.{PlainType, word_type, enum_type}
use Rattle.cudf_problem.specs.declared.package.Keep.{Keep}
use Rattle.cudf_problem.specs.declared.package.Keep.TheVariants.{Version, Package, Feature, Nothing}

-- ---- how a value is read

abbrev pub name_value : List ℕ → Option (List ℕ)
name_value = trimmed (λ text. some_if (is_pkgname text) text)

abbrev pub truth_value : List ℕ → Option Bool
truth_value = trimmed truth

-- the values of `keep`, by their words
abbrev pub keep_words : List (List ℕ × Keep)
keep_words = (codes "version", Version) ∷ (codes "package", Package) ∷ (codes "feature", Feature) ∷ (codes "none", Nothing) ∷ []

abbrev pub keep_value : List ℕ → Option Keep
keep_value = trimmed (λ text. look_up text keep_words)

-- ---- what a value has to be

-- the properties of a package, each with its type; `was-installed` may be anything (own)
abbrev pub package_types : List (List ℕ × PlainType)
package_types =
    (codes "package", word_type (codes "pkgname"))
    ∷ (codes "version", word_type (codes "posint"))
    ∷ (codes "depends", word_type (codes "vpkgformula"))
    ∷ (codes "conflicts", word_type (codes "vpkglist"))
    ∷ (codes "provides", word_type (codes "veqpkglist"))
    ∷ (codes "installed", word_type (codes "bool"))
    ∷ (codes "keep", enum_type (map (λ row. row.0) keep_words))
    ∷ (codes "was-installed", word_type (codes "string"))
    ∷ []

-- the properties of a request that count
abbrev pub request_types : List (List ℕ × PlainType)
request_types = map (λ name. (name, word_type (codes "vpkglist"))) (codes "install" ∷ codes "remove" ∷ codes "upgrade" ∷ [])
