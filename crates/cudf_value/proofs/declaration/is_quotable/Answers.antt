use Rattle.std.proofs.Common.{ap, sym, ◌∙◌}
use Rattle.cudf_value.specs.Spots.{is_quotable}
use Rattle.cudf_value.specs.Working.Spots.{spot_of}
use Rattle.cudf_value.proofs.SpotLemmas.{quotable_closed}
use Rattle.cudf_value.proofs.declaration.is_quotable.Goals as goal

pub returns-then-is_outside : goal.returns-then-is_outside
returns-then-is_outside c =
    sym (quotable_closed c.as_bytes-bytes.result.now c.loop-byte.byte-index (spot_of c.loop-byte.state) c.loop-byte-test.true (sym c.is_outside.ensures ∙ c.if-is_outside.true))
    ∙ c.loop-byte.invariant
    ∙ ap is_quotable c.as_bytes-bytes.ensures.value
