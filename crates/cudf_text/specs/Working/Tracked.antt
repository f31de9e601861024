-- What a text says, where each value tells whether it is joined of two texts or more.
use Rattle.std.specs.Prelude.{ℕ, Bool, false, List, [], ◌∷◌, ◌++◌, length, map, filter_map, slice_get, Option, Some, None, option_map}
use Rattle.std.specs.List.{slice_split, flat_map}
use Rattle.std.specs.Cow.{cow_str_bytes}
use Rattle.std.specs.declared.alloc.Global.{Global}
use Rattle.std.specs.declared.borrow.CowStr.{CowStr}
use Rattle.cudf_text.specs.declared.fault.Fault.{Fault}
use Rattle.cudf_text.specs.declared.text.Property.{Property}
use Rattle.cudf_text.specs.declared.text.PropertyRef.{PropertyRef}
use Rattle.cudf_text.specs.Promises.Borrows.{is_joined}
use Rattle.cudf_text.specs.Promises.Joins.{is_owned}
use Rattle.cudf_text.specs.Lines.{is_blank_line, blank, named, NumberedLine, judged_lines, lines}
use Rattle.cudf_text.specs.Working.Reading.{fault_after, read_after}
use Rattle.cudf_text.specs.Stanzas.{PlainProperty, PlainStanza, PlainText, continuations, joined as joined_bytes, last_number}

pub record TrackedValue : Type 0 where
  pub bytes : List ℕ
  pub owned : Bool

pub record TrackedProperty : Type 0 where
  pub line : ℕ
  pub name : List ℕ
  pub value : TrackedValue

pub record TrackedStanza : Type 0 where
  pub line : ℕ
  pub last : ℕ
  pub properties : List TrackedProperty

pub record TrackedText : Type 0 where
  pub stanzas : List TrackedStanza
  pub fault : Option Fault
  pub lines : ℕ

-- ---- the same definitions as those of a plain text

abbrev pub joined : List (List ℕ) → TrackedValue
joined texts = record { bytes = joined_bytes texts; owned = is_joined texts }

abbrev pub properties : List NumberedLine → List TrackedProperty
properties [] = []
properties ((n, named name text) ∷ ls) = record { line = n; name = name; value = joined (text ∷ continuations ls) } ∷ properties ls
properties (l ∷ ls) = properties ls

abbrev pub stanza_with : ℕ → List TrackedProperty → Option TrackedStanza
stanza_with last [] = None
stanza_with last (p ∷ ps) = Some (record { line = p.line; last = last; properties = p ∷ ps })

abbrev pub stanza_of : List NumberedLine → Option TrackedStanza
stanza_of ls = stanza_with (last_number ls) (properties ls)

abbrev pub stanzas_of : List NumberedLine → List TrackedStanza
stanzas_of ls = filter_map stanza_of (slice_split is_blank_line ls)

-- ---- what is plain in them, and what they tell besides

abbrev pub plain_property : TrackedProperty → PlainProperty
plain_property p = record { line = p.line; name = p.name; value = p.value.bytes }

abbrev pub plain_stanza : TrackedStanza → PlainStanza
plain_stanza s = record { line = s.line; last = s.last; properties = map plain_property s.properties }

abbrev pub owned_of : List TrackedProperty → List Bool
owned_of ps = map (λ p. p.value.owned) ps

abbrev pub plain_of : TrackedText → PlainText
plain_of t = record { stanzas = map plain_stanza t.stanzas; fault = t.fault; lines = t.lines }

-- for each property, whether its value is joined
abbrev pub joins_of : TrackedText → List Bool
joins_of t = flat_map (λ s. owned_of s.properties) t.stanzas

-- a plain stanza of these properties that ends at this line, if there is a property
abbrev pub plain_with : ℕ → List PlainProperty → Option PlainStanza
plain_with last ps = option_map (λ p. record { line = p.line; last = last; properties = ps }) (slice_get ps 0)

-- a whole text
abbrev pub whole : List ℕ → TrackedText
whole text = record {
  stanzas = stanzas_of (read_after blank (judged_lines text));
  fault = fault_after blank (judged_lines text);
  lines = length (lines text);
}

-- ---- values and properties of the code

abbrev pub tracked_value : CowStr Global → TrackedValue
tracked_value v = record { bytes = cow_str_bytes v; owned = is_owned v }

abbrev pub tracked_property : Property → TrackedProperty
tracked_property p = record { line = p.line; name = p.name.now; value = tracked_value p.value }

abbrev pub tracked_part : PropertyRef → TrackedProperty
tracked_part p = record { line = p.line; name = p.name.now; value = record { bytes = p.value.now; owned = false } }

-- those whose values are parts of the source, and then the others
abbrev pub tracked_properties : List PropertyRef → List Property → List TrackedProperty
tracked_properties parts others = map tracked_part parts ++ map tracked_property others
