-- The source gave the bytes so far, within the limit, and each turn was one call that neither failed nor ended the input.
use Rattle.std.proofs.Common.{◌≡◌, ◌+◌, ◌≤◌, length}
use Rattle.std.specs.Io.KnownBytes.{Consumes}
use Rattle.cudf_device.proofs.input.read_all.Given as goal

abbrev pub invariant-loop-turn : goal.invariant-loop-turn
invariant-loop-turn g l = let now = g.R.Source.state l.source in let before = g.R.Source.state l.fn.source in record {
  consumed : Consumes before.remaining now.remaining l.bytes.items;
  counted : now.given ≡ before.given + length l.bytes.items;
  short : length l.bytes.items ≤ 268435456;
  called : now.calls ≡ before.calls + l.turn;
  calm : now.failures ≡ before.failures;
  open_yet : now.ends ≡ before.ends;
  named : now.name ≡ before.name;
}
