-- Laws of the definitions of this crate, in plain words: CUDF 2.0, syntax of stanzas and properties.
use Rattle.std.specs.Prelude.{◌≡◌, ℕ, ◌<◌, false, List, [], ◌∷◌, ◌++◌, length, slice_get, MatchOption, All}
use Rattle.std.specs.List.{concat, list_any}
use Rattle.cudf_text.specs.Lines.{is_lf, raw_lines}
use Rattle.cudf_text.specs.Stanzas.{PlainStanza, plain_text}

-- ---- lines

abbrev pub HasNoLf : List ℕ → Type 0
HasNoLf bytes = list_any is_lf bytes ≡ false

-- the lines with their ends, one after the other, are the text
abbrev pub LinesJoinToText : List ℕ → Type 0
LinesJoinToText text = concat (raw_lines text) ≡ text

-- bytes without LF that come before an LF are a line with it
abbrev pub LineEndsAtLf : List ℕ → List ℕ → Type 0
LineEndsAtLf line rest = HasNoLf line → raw_lines (line ++ 10 ∷ rest) ≡ (line ++ 10 ∷ []) ∷ raw_lines rest

-- bytes without LF at the end of a text are a line where there are any
abbrev pub LastLineNeedsNoLf : List ℕ → Type 0
LastLineNeedsNoLf line = HasNoLf line → 0 < length line → raw_lines line ≡ line ∷ []

-- ---- stanzas

-- there is a first property, and the stanza's line is that one's
abbrev pub BeginsWithProperty : PlainStanza → Type 0
BeginsWithProperty s = MatchOption (slice_get s.properties 0) ⊥ (λ p. s.line ≡ p.line)

-- each stanza of a text has a property at least
abbrev pub StanzasHaveProperties : List ℕ → Type 0
StanzasHaveProperties text = All BeginsWithProperty (plain_text text).stanzas
