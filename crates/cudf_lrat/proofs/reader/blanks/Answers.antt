use Rattle.std.proofs.Common.{sym, arith, length, le_refl}
use Rattle.std.proofs.lemmas.List.Sums.{prefix_len_is}
use Rattle.cudf_text.specs.Chars.{is_blank}
use Rattle.cudf_lrat.proofs.reader.blanks.Goals as goal

pub returns-then-not-is_blank-clause-value : goal.returns-then-not-is_blank-clause-value
returns-then-not-is_blank-clause-value c = sym (prefix_len_is is_blank c.args.text.now c.loop-index.index 0 (omega arith) c.loop-index.invariant (λ _. sym c.if-not-is_blank.ensures))

pub returns-clause-value : goal.returns-clause-value
returns-clause-value c = sym (prefix_len_is is_blank c.args.text.now (length c.args.text.now) 0 (le_refl _) (λ k lt. c.loop-index.invariant k (omega arith)) (λ lt. absurd (omega arith)))
