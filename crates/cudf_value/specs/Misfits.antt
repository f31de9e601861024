-- The word of a type, and the first entry of a list that is none: own.
use Rattle.std.specs.Prelude.{ℕ, ◌+◌, Bool, not, List, [], ◌∷◌, position, is_some, Option, option_map, option_and_then, codes}
use Rattle.std.specs.Str.{byte}
use Rattle.cudf_text.specs.Chars.{trim}
use Rattle.cudf_value.specs.Parts.{look_up, parts}
use Rattle.cudf_value.specs.Vpkgs.{vpkg, veqpkg}
use Rattle.cudf_value.specs.Formulas.{clause}
use Rattle.cudf_value.specs.Types.{PlainType, word_type, enum_type}

-- the word of a type, which for each enum is `enum`
abbrev pub type_word : PlainType → List ℕ
type_word (word_type word) = word
type_word (enum_type idents) = codes "enum"

-- the types whose values are lists, each with the test of an entry, which may have blanks round it
abbrev pub entry_tests : List (List ℕ × (List ℕ → Bool))
entry_tests =
    (codes "vpkgformula", λ part. is_some (clause part))
    ∷ (codes "vpkglist", λ part. is_some (vpkg (trim part)))
    ∷ (codes "veqpkglist", λ part. is_some (veqpkg (trim part)))
    ∷ []

-- the number, from 1, of the first text that fails a test
abbrev pub first_failing : (List ℕ → Bool) → List (List ℕ) → Option ℕ
first_failing test texts = option_map (λ n. n + 1) (position (λ text. not (test text)) texts)

-- of a type whose values are lists, the number of the first entry between commas that is none
unfoldable pub misfit : List ℕ → List ℕ → Option ℕ
misfit word text = option_and_then (λ test. first_failing test (parts (byte ",") text)) (look_up word entry_tests)
