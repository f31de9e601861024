use Rattle.std.proofs.Common.{◌≡◌, ◌+◌, ◌-◌, ◌<◌, ◌≤◌, length, drop, get_or}
use Rattle.std.specs.List.{prefix_len}
use Rattle.cudf_text.specs.Promises.Classes.{is_in_class}
use Rattle.cudf_text.proofs.scan.run_end.Given as goal

abbrev pub invariant-loop-n : goal.invariant-loop-n
invariant-loop-n l = record {
  inside : l.n ≤ length l.bytes;
  run : l.n + prefix_len (is_in_class l.class) (drop l.n l.bytes) ≡ prefix_len (is_in_class l.class) l.bytes;
  ascii : 0 < l.n → get_or l.bytes (l.n - 1) 0 < 128;
}

abbrev pub decreases-loop-n : goal.decreases-loop-n
decreases-loop-n l = length l.initial.bytes - l.n
