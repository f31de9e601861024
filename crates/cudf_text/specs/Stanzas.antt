-- What a text says, its properties and stanzas: CUDF 2.0, syntax of stanzas and properties.
use Rattle.std.specs.Prelude.{ℕ, not, ◌==◌, List, [], ◌∷◌, length, filter, filter_map, slice_get, Option, None, option_map}
use Rattle.std.specs.List.{join_with_byte, slice_split, last_or}
use Rattle.std.specs.Option.{option_map_or}
use Rattle.std.specs.Str.{byte}
use Rattle.cudf_text.specs.declared.fault.Fault.{Fault}
use Rattle.cudf_text.specs.Lines.{continuation, named, NumberedLine, is_blank_line, lines}
use Rattle.cudf_text.specs.LineFaults.{first_fault, read_lines}

-- ---- what a text says

-- a name and its value, with the number of the name line
pub record PlainProperty : Type 0 where
  pub line : ℕ
  pub name : List ℕ
  pub value : List ℕ

-- properties with no blank line between, with the number of the first one's line and of the last line
pub record PlainStanza : Type 0 where
  pub line : ℕ
  pub last : ℕ
  pub properties : List PlainProperty

-- the stanzas of a text, its first faulty line, and how many lines it has
pub record PlainText : Type 0 where
  pub stanzas : List PlainStanza
  pub fault : Option Fault
  pub lines : ℕ

-- ---- properties

-- the texts of the continuations that come first
abbrev pub continuations : List NumberedLine → List (List ℕ)
continuations [] = []
continuations ((n, continuation text) ∷ ls) = text ∷ continuations ls
continuations (l ∷ ls) = []

-- the texts that aren't empty, with one space between each two (own)
abbrev pub joined : List (List ℕ) → List ℕ
joined texts = join_with_byte (byte " ") (filter (λ text. not (length text == 0)) texts)

-- each name line, with the continuations that directly follow it
abbrev pub properties : List NumberedLine → List PlainProperty
properties [] = []
properties ((n, named name text) ∷ ls) = record { line = n; name = name; value = joined (text ∷ continuations ls) } ∷ properties ls
properties (l ∷ ls) = properties ls

-- ---- stanzas

-- the number of the last line
abbrev pub last_number : List NumberedLine → ℕ
last_number ls = option_map_or (λ l. l.0) (last_or None ls) 0

-- the stanza on lines of which none is blank, if they have a property: from the first one's line to the last line
abbrev pub stanza_of : List NumberedLine → Option PlainStanza
stanza_of ls = option_map (λ p. record { line = p.line; last = last_number ls; properties = properties ls }) (slice_get (properties ls) 0)

-- the lines are split at the blank ones, and each part is a stanza, if it has a property
abbrev pub stanzas_of : List NumberedLine → List PlainStanza
stanzas_of ls = filter_map stanza_of (slice_split is_blank_line ls)

-- what a text says, as far as its first faulty line, with the number of all its lines
unfoldable pub plain_text : List ℕ → PlainText
plain_text text = record { stanzas = stanzas_of (read_lines text); fault = first_fault text; lines = length (lines text) }
