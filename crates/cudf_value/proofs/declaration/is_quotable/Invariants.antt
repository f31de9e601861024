use Rattle.std.proofs.Common.{◌≡◌, drop}
use Rattle.cudf_value.specs.Spots.{is_quotable}
use Rattle.cudf_value.specs.Working.Spots.{spot_of, is_quotable_from}
use Rattle.cudf_value.proofs.declaration.is_quotable.Given as goal

abbrev pub invariant-loop-byte : goal.invariant-loop-byte
invariant-loop-byte l = is_quotable_from (spot_of l.state) (drop l.byte-index l.bytes) ≡ is_quotable l.bytes
