-- The names of a stanza's properties.
use Rattle.std.specs.Prelude.{◌≡◌, ℕ, List, bytes_eq}
use Rattle.std.specs.List.{list_any}
use Rattle.cudf_text.specs.Stanzas.{PlainProperty}

-- a name is among the names that were seen where a property has it
abbrev pub AreNames : List (List ℕ) → List PlainProperty → Type 0
AreNames names ps = (name : List ℕ) → list_any (bytes_eq name) names ≡ list_any (λ p. bytes_eq name p.name) ps
