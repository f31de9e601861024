-- CUDF's types, and which texts are of each (the type library).
use Rattle.std.specs.Prelude.{ℕ, Bool, true, false, List, [], ◌∷◌, Option, is_some, bytes_eq, codes}
use Rattle.std.specs.List.{list_any}
use Rattle.std.specs.Option.{option_map_or}
use Rattle.cudf_text.specs.Chars.{is_ident}
use Rattle.cudf_value.specs.Parts.{look_up}
use Rattle.cudf_value.specs.Words.{truth, is_pkgname}
use Rattle.cudf_value.specs.Numbers.{positive, natural, signed}
use Rattle.cudf_value.specs.Vpkgs.{vpkg, veqpkg}
use Rattle.cudf_value.specs.Formulas.{formula, vpkglist, veqpkglist}

-- the text has a value
abbrev pub can_be : {A : Type 0} → (List ℕ → Option A) → List ℕ → Bool
can_be read text = is_some (read text)

-- the types that are a word, each with the test of its texts; any text is a string
abbrev pub types : List (List ℕ × (List ℕ → Bool))
types =
    (codes "posint", can_be positive)
    ∷ (codes "nat", can_be natural)
    ∷ (codes "int", can_be signed)
    ∷ (codes "bool", can_be truth)
    ∷ (codes "string", λ text. true)
    ∷ (codes "pkgname", is_pkgname)
    ∷ (codes "ident", is_ident)
    ∷ (codes "vpkg", can_be vpkg)
    ∷ (codes "veqpkg", can_be veqpkg)
    ∷ (codes "vpkgformula", can_be formula)
    ∷ (codes "vpkglist", can_be vpkglist)
    ∷ (codes "veqpkglist", can_be veqpkglist)
    ∷ []

-- a type: one of these words, or an enum with its idents
pub data PlainType : Type 0 where
  word_type : List ℕ → PlainType
  enum_type : List (List ℕ) → PlainType

-- the text is one of the words
abbrev pub is_one_of : List (List ℕ) → List ℕ → Bool
is_one_of words text = list_any (λ word. bytes_eq word text) words

-- the whole text is of the type
abbrev pub is_of_type : PlainType → List ℕ → Bool
is_of_type (word_type word) text = option_map_or (λ test. test text) (look_up word types) false
is_of_type (enum_type idents) text = is_one_of idents text
