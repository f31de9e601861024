use Rattle.std.proofs.Common.{◌≡◌, ◌-◌, false, get_or, filter}
use Rattle.std.specs.List.{range_with_len}
use Rattle.cudf_lrat.proofs.steps.needed_numbers.Given as goal

abbrev pub invariant-loop-index : goal.invariant-loop-index
invariant-loop-index l = l.core.items ≡ filter (λ n. get_or l.needed (n - 1) false) (range_with_len 1 l.index)
