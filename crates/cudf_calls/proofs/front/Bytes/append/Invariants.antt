-- The bytes so far were appended.
use Rattle.std.proofs.Common.{◌≡◌, ◌++◌, take}
use Rattle.cudf_calls.specs.Working.Bytes.{listed}
use Rattle.cudf_calls.proofs.front.Bytes.append.Given as goal

abbrev pub invariant-loop-byte : goal.invariant-loop-byte
invariant-loop-byte l = listed l.self ≡ listed l.initial.self ++ take l.byte-index l.bytes
