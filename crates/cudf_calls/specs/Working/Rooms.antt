-- A text in a buffer, for proofs.
use Rattle.std.specs.Prelude.{◌≡◌, ℕ, List, [], ◌∷◌, length, min}

-- the text over the front of what was there: what doesn't fit is left out, and what follows the text stays
abbrev pub over : List ℕ → List ℕ → List ℕ
over [] text = []
over (old ∷ room) [] = old ∷ room
over (old ∷ room) (byte ∷ text) = byte ∷ over room text

-- the room has the front of the report over what was there before, and the report's length was counted
pub record IsFilled (room : List ℕ) (counted : ℕ) (before report : List ℕ) : Type 0 where
  pub shows : room ≡ over before report
  pub counts : counted ≡ min (length report) 18446744073709551615
