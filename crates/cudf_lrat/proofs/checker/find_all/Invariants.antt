use Rattle.std.proofs.Common.{◌≡◌, false, take}
use Rattle.std.specs.List.{list_any}
use Rattle.cudf_lrat.specs.Steps.{is_unnamed, values}
use Rattle.cudf_lrat.specs.Working.Indices.{AreIndicesOf, steps_in}
use Rattle.cudf_lrat.proofs.checker.find_all.Given as goal

abbrev pub invariant-loop-hint : goal.invariant-loop-hint
invariant-loop-hint l =
    record {
      named : list_any (is_unnamed l.cnf.clauses (steps_in l.cnf l.steps)) (values (take l.hint-index l.hints)) ≡ false;
      indices : AreIndicesOf l.cnf l.steps (values (take l.hint-index l.hints)) l.indices.items;
    }
