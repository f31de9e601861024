use Rattle.std.proofs.Common.{ap, ◌∙◌}
use Rattle.cudf_index.specs.Satisfaction.{numbers_of}
use Rattle.cudf_referee.specs.Explanations.{least_of}
use Rattle.cudf_referee.proofs.ExplanationLemmas.{least_alone}
use Rattle.cudf_referee.proofs.referee.Referee.least.Goals as goal

pub returns : goal.returns
returns c = least_alone _ _ c.least.ensures ∙ ap (λ s. least_of (numbers_of c.args.name.now s.proposed)) c.self.view_is
