use Rattle.std.proofs.Common.{◌≡◌, ℕ, ◌<◌, [], false, get_or}
use Rattle.cudf_lrat.specs.Lines.{is_empty}
use Rattle.cudf_lrat.proofs.checker.first_empty.Given as goal

abbrev pub invariant-loop-index : goal.invariant-loop-index
invariant-loop-index l = (k : ℕ) → k < l.index → is_empty (get_or l.cnf.clauses k []) ≡ false
