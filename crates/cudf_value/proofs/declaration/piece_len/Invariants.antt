use Rattle.std.proofs.Common.{◌≡◌, ◌+◌, ◌-◌, ◌≤◌, false, length, take, drop}
use Rattle.std.specs.List.{fold, position_or_len}
use Rattle.cudf_value.specs.Spots.{unquoted, next_spot, with_spots, separates}
use Rattle.cudf_value.specs.Working.Spots.{spot_of}
use Rattle.cudf_value.proofs.declaration.piece_len.Given as goal

abbrev pub invariant-loop-n : goal.invariant-loop-n
invariant-loop-n l = record {
  inside : l.n ≤ length l.bytes;
  len : l.n + position_or_len separates (with_spots (spot_of l.state) (drop l.n l.bytes)) ≡ position_or_len separates (with_spots (unquoted false) l.bytes);
  state : spot_of l.state ≡ fold next_spot (unquoted false) (take l.n l.bytes);
}

abbrev pub decreases-loop-n : goal.decreases-loop-n
decreases-loop-n l = length l.bytes - l.n
