-- What is left of a text while its stanzas are read.
use Rattle.std.specs.Prelude.{ℕ, ◌+◌, ◌<◌, ◌^◌, List, [], ◌∷◌, length, map, filter, Option, Some, None}
use Rattle.std.specs.List.{enumerate_from}
use Rattle.cudf_text.specs.declared.cursor.ReadPosition.{ReadPosition}
use Rattle.cudf_text.specs.declared.cursor.Next.{Next}
use Rattle.cudf_text.specs.declared.cursor.Next.TheVariants as next
use Rattle.cudf_text.specs.declared.fault.Fault.{Fault}
use Rattle.cudf_text.specs.Lines.{blank, class, lines, NumberedLine, is_no_comment}
use Rattle.cudf_text.specs.Working.Tracked.{TrackedProperty, TrackedStanza, TrackedText, stanzas_of}
use Rattle.cudf_text.specs.Working.Reading.{read_after, fault_after}

-- the lines of a text, numbered from n
abbrev pub numbered_from : ℕ → List ℕ → List NumberedLine
numbered_from n text = enumerate_from n (map class (lines text))

-- the stanzas and the first fault of lines that come after a blank one; after a fault none is read
abbrev pub left : Option Fault → List NumberedLine → List TrackedStanza × Option Fault
left None ls = (stanzas_of (read_after blank (filter is_no_comment ls)), fault_after blank (filter is_no_comment ls))
left (Some f) ls = ([], Some f)

-- the stanzas that are left, the first fault and the number of all lines
abbrev pub text_left : ReadPosition → TrackedText
text_left c = record {
  stanzas = (left c.fault (numbered_from (c.lines + 1) c.rest.now)).0;
  fault = (left c.fault (numbered_from (c.lines + 1) c.rest.now)).1;
  lines = c.lines + length (lines c.rest.now);
}

-- there are no more lines than a number holds
abbrev pub IsCounted : ReadPosition → Type 0
IsCounted c = c.lines + length c.rest.now < 2 ^ 64

-- what was left before this was read: one stanza more than is left now, or no stanza
abbrev pub with_tracked : Next → List TrackedProperty → TrackedText → TrackedText
with_tracked (next.Stanza line last) ps text =
    record { stanzas = record { line = line; last = last; properties = ps } ∷ text.stanzas; fault = text.fault; lines = text.lines }
with_tracked (next.End fault lines) ps text = record { stanzas = []; fault = fault; lines = lines }
