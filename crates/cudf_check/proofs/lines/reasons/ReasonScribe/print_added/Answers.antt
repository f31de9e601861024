use Rattle.std.proofs.Common.{◌≡◌, ℕ, [], sym, ap, subst, ◌∙◌}
use Rattle.std.specs.Prelude.{is_some, IfSome}
use Rattle.cudf_referee.specs.Promises.Views.{instance_view}
use Rattle.cudf_check.specs.Explanations.{help_of, reason_added}
use Rattle.cudf_device.proofs.PaperLemmas.{Says-as}
use Rattle.cudf_check.proofs.lines.reasons.ReasonScribe.print_added.Goals as goal

pub returns-in-Some : goal.returns-in-Some
returns-in-Some g c =
    let i = instance_view c.args.instance.now in
    let problem = c.self.inside.problem.now in
    let same : c.in-Some.remedies ≡ problem = subst (λ r. IfSome r (λ p. p ≡ problem)) c.in-Some.is c.self.invariant in
    Says-as _ _ _ _ _ (ap (λ p. help_of (λ (place : ℕ). []) p i) same ∙ ap (λ r. reason_added (is_some r) problem i) (sym c.in-Some.is)
    ∙ ap (λ s. reason_added s.explain s.problem i) c.self.view_is)
    c.print_help_alone.ensures
