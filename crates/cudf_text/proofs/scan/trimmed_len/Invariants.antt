use Rattle.std.proofs.Common.{◌≡◌, ◌+◌, ◌<◌, ◌≤◌, length, take, get_or}
use Rattle.std.specs.List.{suffix_len}
use Rattle.cudf_text.specs.Chars.{is_blank}
use Rattle.cudf_text.proofs.scan.trimmed_len.Given as goal

abbrev pub invariant-loop-n : goal.invariant-loop-n
invariant-loop-n l = record {
  inside : l.n ≤ length l.bytes;
  blanks : l.n + suffix_len is_blank l.bytes ≡ length l.bytes + suffix_len is_blank (take l.n l.bytes);
  ascii : l.n < length l.bytes → get_or l.bytes l.n 0 < 128;
}

abbrev pub decreases-loop-n : goal.decreases-loop-n
decreases-loop-n l = l.n
