use Rattle.std.proofs.Common.{take}
use Rattle.std.specs.Prelude.{All}
use Rattle.cudf_lrat.specs.Lists.{lists_in}
use Rattle.cudf_lrat.specs.Literals.{IsWithin}
use Rattle.cudf_lrat.proofs.cnf.Cnf.are_within.Given as goal

abbrev pub invariant-loop-index : goal.invariant-loop-index
invariant-loop-index l = All (All (IsWithin l.variables)) (take l.index (lists_in l.clauses))
