use Rattle.std.proofs.Common.{◌≡◌, ◌==◌, All, false, length}
use Rattle.cudf_lrat.specs.Lines.{signed_numbers, words_of}
use Rattle.cudf_lrat.specs.Working.Numbers.{after_numbers}
use Rattle.cudf_lrat.proofs.reader.read_numbers.Given as goal

-- those that were read, none of them zero, and those of the rest
abbrev pub invariant-loop-word : goal.invariant-loop-word
invariant-loop-word l =
    record {
      numbers : after_numbers l.numbers.items (signed_numbers (words_of l.rest)) ≡ signed_numbers (words_of l.text);
      some : All (λ n. (n.value == 0) ≡ false) l.numbers.items;
    }

abbrev pub decreases-loop-word : goal.decreases-loop-word
decreases-loop-word l = length l.rest
