use Rattle.std.proofs.Common.{ap, ◌∙◌}
use Rattle.cudf_index.specs.Satisfaction.{numbers_of}
use Rattle.cudf_referee.specs.Explanations.{greatest_of}
use Rattle.cudf_referee.proofs.ExplanationLemmas.{greatest_alone}
use Rattle.cudf_referee.proofs.referee.Referee.greatest.Goals as goal

pub returns : goal.returns
returns c = greatest_alone _ _ c.greatest.ensures ∙ ap (λ s. greatest_of (numbers_of c.args.name.now s.proposed)) c.self.view_is
