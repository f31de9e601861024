use Rattle.std.proofs.Common.{◌∙◌}
use Rattle.cudf_index.specs.Satisfaction.{members}
use Rattle.cudf_better.proofs.encoding.ProblemIndexes.new.Goals as goal

pub invariant_of-result-clause-installed : goal.invariant_of-result-clause-installed
invariant_of-result-clause-installed c = c.in_ok-before.ensures ∙ (λ i. members (λ place. c.in_ok-was.ensures.places place i) c.args.problem.now.packages)
