use Rattle.std.proofs.Common.{◌*◌, ◌^◌, ◌<◌, sym, arith}
use Rattle.cudf_lrat.proofs.NumberLemmas.{number_after-large, number_after-sum}
use Rattle.cudf_lrat.proofs.reader.with_digit.Goals as goal

pub returns-in_err-tens-clause-value : goal.returns-in_err-tens-clause-value
returns-in_err-tens-clause-value c = λ digits.
    let large : c.args.value * 10 < 2 ^ 64 → ⊥ = c.in_err-tens.ensures in
    rw c.from_residual.ensures (number_after-large c.args.value c.args.byte digits c.if-not-is_ascii_digit.ensures.cases (omega arith))

pub returns-clause-value : goal.returns-clause-value
returns-clause-value c = λ digits.
    number_after-sum c.args.value c.args.byte c.in_ok-tens.tens c.from.result digits c.checked_add.result (sym c.if-not-is_ascii_digit.ensures.value) c.if-not-is_ascii_digit.ensures.cases c.in_ok-tens.ensures.1 c.from.ensures c.checked_add.ensures
