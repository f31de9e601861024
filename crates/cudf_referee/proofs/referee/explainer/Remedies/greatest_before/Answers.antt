use Rattle.std.proofs.Common.{ap, ◌∙◌}
use Rattle.cudf_problem.specs.Statuses.{is_initial}
use Rattle.cudf_index.specs.Satisfaction.{members, numbers_of}
use Rattle.cudf_referee.specs.Explanations.{greatest_of}
use Rattle.cudf_referee.proofs.ExplanationLemmas.{greatest_alone}
use Rattle.cudf_referee.proofs.referee.explainer.Remedies.greatest_before.Goals as goal

pub returns : goal.returns
returns c =
    greatest_alone _ _ c.greatest.ensures
    ∙ ap (λ status. greatest_of (numbers_of c.args.name.now status)) (c.self.invariant.1 ∙ ap (λ p. members (is_initial p) p.packages) c.self.view_is)
