use Rattle.std.proofs.Common.{◌≡◌, length}
use Rattle.cudf_text.proofs.source.empty_texts.Given as goal

abbrev pub invariant-loop : goal.invariant-loop
invariant-loop l = length l.texts.items ≡ l.counter
