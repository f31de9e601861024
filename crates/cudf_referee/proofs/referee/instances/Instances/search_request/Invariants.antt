use Rattle.std.proofs.Common.{None, length}
use Rattle.cudf_referee.specs.Working.RequestInstancesLeft.{request_left_view}
use Rattle.cudf_referee.specs.Working.Searches.{Goes, request_rest}
use Rattle.cudf_referee.proofs.ComesLemmas.{IsTail}
use Rattle.cudf_referee.proofs.referee.instances.Instances.search_request.Given as goal

abbrev pub invariant-loop-instance : goal.invariant-loop-instance
invariant-loop-instance l =
    Goes l.fn.self (request_rest l.fn.self.judged l.fn.left) None (request_rest l.fn.self.judged l.left) l.self
    × IsTail (request_rest l.fn.self.judged l.fn.left) (request_rest l.fn.self.judged l.left)

abbrev pub decreases-loop-instance : goal.decreases-loop-instance
decreases-loop-instance l = length (request_left_view l.fn.self.judged.problem.request l.left)
