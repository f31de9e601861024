-- None of those so far is held.
use Rattle.std.proofs.Common.{◌≡◌, [], take}
use Rattle.std.specs.FinSet as set
use Rattle.cudf_index.specs.Satisfaction.{members}
use Rattle.cudf_referee.specs.Working.Needers.{holds_other}
use Rattle.cudf_referee.proofs.referee.needers.first_held.Given as goal

abbrev pub invariant-loop-before : goal.invariant-loop-before
invariant-loop-before l = members (holds_other (set.contains l.status) l.except) (take l.before l.problem.packages) ≡ []
