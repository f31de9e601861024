use Rattle.std.proofs.Common.{subst, arith}
use Rattle.std.specs.List.Sorted.{IsNonDecreasing}
use Rattle.cudf_index.proofs.EndLemmas.{least_first}
use Rattle.cudf_index.proofs.index.sorted.SortedNumbers.least.Goals as goal

pub returns-clause-least : goal.returns-clause-least
returns-clause-least c =
    least_first c.args.self.now (subst IsNonDecreasing c.self.view_is c.self.invariant) c.at.result (omega (arith, c.len.ensures, c.if-len-eq0.false)) c.at.ensures.value
