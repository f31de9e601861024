-- The solutions so far are judged.
use Rattle.cudf_check.proofs.JudgingLemmas.{JudgedSoFar}
use Rattle.cudf_check.proofs.judging.judge_each.Given as goal

abbrev pub invariant-loop-index : goal.invariant-loop-index
invariant-loop-index l = JudgedSoFar l.fn.setting.mode l.problem (λ b. b.items) l.solutions l.index l.entrants.items
