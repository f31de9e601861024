-- The names by which an enum's values are looked up.
use Rattle.std.specs.Prelude.{◌≡◌, ℕ, List, map, bytes_eq}
use Rattle.std.specs.Borrow.{Bor}
use Rattle.std.specs.List.{list_any}
use Rattle.cudf_value.specs.Types.{PlainType, enum_type, is_one_of}

-- the names are those of the words, each once
abbrev pub AreWords : List (Bor (List ℕ)) → List (List ℕ) → Type 0
AreWords words names = (text : List ℕ) → list_any (bytes_eq text) names ≡ is_one_of (map (λ word. word.now) words) text

-- the names are an enum's idents; of another type nothing is said
abbrev pub AreIdents : PlainType → List (List ℕ) → Type 0
AreIdents kind names = (words : List (List ℕ)) → kind ≡ enum_type words → (text : List ℕ) → list_any (bytes_eq text) names ≡ is_one_of words text
