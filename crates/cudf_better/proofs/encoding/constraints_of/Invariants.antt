use Rattle.std.proofs.Common.{take}
use Rattle.cudf_better.specs.Working.Constraints.{AreConstraints}
use Rattle.cudf_better.proofs.encoding.constraints_of.Given as goal

abbrev pub invariant-loop-aim : goal.invariant-loop-aim
invariant-loop-aim l = AreConstraints l.source.problem.now l.counts (take l.aim-index l.aims) l.constraints.items
