-- What a cursor reads of the text that it has left.
use Rattle.std.specs.Prelude.{Bool, true, false, List, [], ◌∷◌, map}
use Rattle.cudf_text.specs.declared.cursor.Next.{Next}
use Rattle.cudf_text.specs.declared.cursor.Next.TheVariants as next
use Rattle.cudf_text.specs.declared.text.PropertyRef.{PropertyRef}
use Rattle.cudf_text.specs.Stanzas.{PlainText}
use Rattle.cudf_text.specs.Promises.Views.{property_view}

-- what was left before this was read: one stanza more than is left now, or no stanza
abbrev pub with_next : Next → List PropertyRef → PlainText → PlainText
with_next (next.Stanza line last) ps left =
    record left { stanzas = record { line = line; last = last; properties = map property_view ps } ∷ left.stanzas }
with_next (next.End fault lines) ps left = record { stanzas = []; fault = fault; lines = lines }

-- there are no more stanzas
abbrev pub is_end : Next → Bool
is_end (next.Stanza line last) = false
is_end (next.End fault lines) = true
