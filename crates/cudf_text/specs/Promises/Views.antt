-- What contracts see of a `Text`, and of stanzas that are read as they are asked for.
use Rattle.std.specs.Prelude.{◌≡◌, Bool, List, map}
use Rattle.std.specs.List.{flat_map}
use Rattle.std.specs.Cow.{cow_str_bytes}
use Rattle.cudf_text.specs.declared.text.Property.{Property}
use Rattle.cudf_text.specs.declared.text.PropertyRef.{PropertyRef}
use Rattle.cudf_text.specs.declared.text.Stanza.{Stanza}
use Rattle.cudf_text.specs.declared.text.StanzaRef.{StanzaRef}
use Rattle.cudf_text.specs.declared.text.Text.{Text}
use Rattle.cudf_text.specs.Promises.Joins.{is_owned}
use Rattle.cudf_text.specs.Stanzas.{PlainProperty, PlainStanza, PlainText, plain_text}

-- a property, its value by its bytes
abbrev pub property_view : PropertyRef → PlainProperty
property_view p = record { line = p.line; name = p.name.now; value = p.value.now }

abbrev pub stanza_view : StanzaRef → PlainStanza
stanza_view s = record { line = s.line; last = s.last; properties = map property_view s.properties.items }

-- those of a `Text`
abbrev pub own_property_view : Property → PlainProperty
own_property_view p = record { line = p.line; name = p.name.now; value = cow_str_bytes p.value }

abbrev pub own_stanza_view : Stanza → PlainStanza
own_stanza_view s = record { line = s.line; last = s.last; properties = map own_property_view s.properties.items }

-- a text by its lists and bytes
abbrev pub text_view : Text → PlainText
text_view t = record { stanzas = map own_stanza_view t.stanzas.items; fault = t.fault; lines = t.lines }

-- t says what its source says
abbrev pub IsText : Text → Type 0
IsText t = text_view t ≡ plain_text t.source.now

-- for each of these properties, whether its value is a text of its own
abbrev pub owned_in : List Property → List Bool
owned_in ps = map (λ p. is_owned p.value) ps

-- for each property of a text, in order, whether its value is a text of its own
abbrev pub owned_values : Text → List Bool
owned_values t = flat_map (λ s. owned_in s.properties.items) t.stanzas.items
