use Rattle.std.proofs.Common.{◌≡◌, ◌^◌, ◌<◌, drop}
use Rattle.cudf_lrat.specs.Working.Numbers.{number_after}
use Rattle.cudf_lrat.proofs.reader.read_number.Given as goal

-- what is left after the value so far
abbrev pub invariant-loop-byte : goal.invariant-loop-byte
invariant-loop-byte l =
    record {
      value : number_after l.value (drop l.byte-index l.word) ≡ number_after 0 l.word;
      fits : l.value < 2 ^ 64;
    }
