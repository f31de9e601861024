use Rattle.std.proofs.Common.{◌+◌, [], option_map, ap, sym, arith}
use Rattle.cudf_lrat.proofs.PositionLemmas.{position_none}
use Rattle.cudf_lrat.specs.Lines.{is_empty}
use Rattle.cudf_lrat.proofs.checker.first_empty.Goals as goal

pub returns : goal.returns
returns c =
    let clauses = c.args.cnf.now.clauses in
    sym (ap (option_map (λ index. index + 1)) (position_none is_empty clauses [] (λ k lt. c.loop-index.invariant k (omega (arith, c.len-index-end.ensures)))))
