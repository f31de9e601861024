use Rattle.std.proofs.Common.{ap, sym, ◌∙◌}
use Rattle.cudf_problem.specs.Statuses.{is_initial}
use Rattle.cudf_index.specs.Satisfaction.{members, numbers_of}
use Rattle.cudf_referee.specs.Explanations.{greatest_of}
use Rattle.cudf_referee.proofs.referee.explainer.Explainer.greatest_before.Goals as goal

pub returns : goal.returns
returns c =
    c.greatest_before.ensures
    ∙ ap (λ status. greatest_of (numbers_of c.args.name.now status)) (ap (λ p. members (is_initial p) p.packages) c.self.invariant.0 ∙ sym c.self.invariant.1 ∙ ap (λ s. s.initial) c.self.view_is)
