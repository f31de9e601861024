use Rattle.std.proofs.Common.{bytes_eq, ◌∙◌}
use Rattle.cudf_referee.specs.Working.Firsts.{lesser_of}
use Rattle.cudf_referee.proofs.RemedyLemmas.{first_of_both}
use Rattle.cudf_referee.proofs.referee.explainer.Remedies.first_named.Goals as goal

pub returns : goal.returns
returns c =
    c.lesser_of.ensures ∙ (λ i. lesser_of (c.first_named.ensures i) (c.first_named-2.ensures i))
    ∙ first_of_both c.self.inside.problem.now c.args.self.now (λ p. bytes_eq p.1.name c.args.name.now) _ _ c.self.invariant.0 c.self.invariant.1 c.self.view_is
