use Rattle.std.proofs.Common.{◌≡◌, false, [], take}
use Rattle.std.specs.FinSet as set
use Rattle.cudf_referee.specs.Criteria.{at_most_max}
use Rattle.cudf_referee.specs.Proposals.{proposal}
use Rattle.cudf_referee.proofs.RecommendLemmas.{counted}
use Rattle.cudf_referee.proofs.counting.count_unsatisfied.Given as goal

-- what the packages so far recommend
abbrev pub invariant-loop-number : goal.invariant-loop-number
invariant-loop-number l = l.count ≡ at_most_max (counted (proposal l.problem (λ n. false) (set.contains l.proposed) []) (set.contains l.proposed) (take l.number l.problem.packages))
