use Rattle.std.specs.FinSet as set
use Rattle.cudf_index.specs.Satisfaction.{members}
use Rattle.cudf_index.specs.Working.Shares.{AreShares}
use Rattle.cudf_index.proofs.index.member.shares_of.Given as goal

abbrev pub invariant-loop-before : goal.invariant-loop-before
invariant-loop-before l = AreShares (members (set.contains l.status) l.problem.packages) l.shares.items
