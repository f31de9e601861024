use Rattle.std.proofs.Common.{◌≡◌, ◌-◌, length}
use Rattle.cudf_referee.specs.Working.ProblemLeft.{left_from}
use Rattle.cudf_referee.proofs.instance.ProblemInstancesIterator.next.Given as goal

abbrev pub invariant-loop-candidate : goal.invariant-loop-candidate
invariant-loop-candidate l =
    left_from l.self.problem.now l.self.passed l.self.begun l.self.request ≡ left_from l.fn.self.problem.now l.fn.self.passed l.fn.self.begun l.fn.self.request

abbrev pub decreases-loop-candidate : goal.decreases-loop-candidate
decreases-loop-candidate l = length l.self.problem.now.packages - l.self.passed
