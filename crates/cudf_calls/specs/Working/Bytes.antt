-- Bytes that only contracts see, for proofs.
use Rattle.std.specs.Prelude.{ℕ, List, [], ◌∷◌, ◌++◌}
use Rattle.cudf_calls.specs.declared.front.Bytes.{Bytes, Empty, More'}

-- as a list
abbrev pub listed : Bytes → List ℕ
listed Empty = []
listed (More' shape before byte) = listed before ++ byte.value ∷ []
