-- Which values are joined of two texts or more: these alone are no parts of the source.
use Rattle.std.specs.Prelude.{ℕ, Bool, not, ◌==◌, nat_lt, List, [], ◌∷◌, length, filter}
use Rattle.cudf_text.specs.Lines.{named, NumberedLine}
use Rattle.cudf_text.specs.LineFaults.{read_lines}
use Rattle.cudf_text.specs.Stanzas.{continuations}

-- the texts that aren't empty
abbrev pub some_texts : List (List ℕ) → List (List ℕ)
some_texts texts = filter (λ text. not (length text == 0)) texts

-- two texts at least aren't empty
abbrev pub is_joined : List (List ℕ) → Bool
is_joined texts = nat_lt 1 (length (some_texts texts))

-- for each property, in order, whether its value is joined
abbrev pub joins : List NumberedLine → List Bool
joins [] = []
joins ((n, named name text) ∷ ls) = is_joined (text ∷ continuations ls) ∷ joins ls
joins (l ∷ ls) = joins ls

-- for each property of a text that is read, in order, whether its value is joined
unfoldable pub joined_values : List ℕ → List Bool
joined_values text = joins (read_lines text)
