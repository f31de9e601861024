use Rattle.std.proofs.Common.{◌≡◌, ◌-◌, ◌≤◌, length, drop}
use Rattle.cudf_text.specs.Joined.{behind}
use Rattle.cudf_text.specs.Lines.{raw_lines}
use Rattle.cudf_text.specs.Working.Marks.{marks}
use Rattle.cudf_text.proofs.text.after_mark.Given as goal

abbrev pub invariant-loop-mark : goal.invariant-loop-mark
invariant-loop-mark l = record {
  inside : length l.rest ≤ length l.bytes;
  end : drop (length l.bytes - length l.rest) l.bytes ≡ l.rest;
  lines : behind (marks l.mark) (raw_lines l.rest) ≡ behind (marks l.mark) (raw_lines l.bytes);
}

abbrev pub decreases-loop-mark : goal.decreases-loop-mark
decreases-loop-mark l = length l.rest
