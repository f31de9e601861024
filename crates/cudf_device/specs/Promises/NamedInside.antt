-- What a named source is made of: own.
use Rattle.std.specs.Prelude.{ℕ, List, Option, option_map}
use Rattle.cudf_device.specs.Device.{SourceState}
use Rattle.cudf_device.specs.declared.device.Named.{Named}

-- the source under the name
abbrev pub named_source : {S : Type 0} → Named S → S
named_source n = n.source

abbrev pub name_of : {S : Type 0} → Named S → Option (List ℕ)
name_of n = option_map (λ name. name.now) n.name

-- the state of the source, with this name
abbrev pub named_state : {S : Type 0} → (S → SourceState) → Named S → SourceState
named_state state n = record {
  name = name_of n;
  remaining = (state n.source).remaining;
  calls = (state n.source).calls;
  failures = (state n.source).failures;
  ends = (state n.source).ends;
  given = (state n.source).given;
  last = (state n.source).last;
}
