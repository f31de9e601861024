use Rattle.std.proofs.Common.{option_and_then, option_map, ap, ◌∙◌}
use Rattle.cudf_problem.specs.Promises.Views.{package_view}
use Rattle.cudf_problem.specs.Universe.{package_at}
use Rattle.cudf_check.specs.Explanations.{needed_text}
use Rattle.cudf_device.proofs.PaperLemmas.{Says-as}
use Rattle.cudf_check.proofs.lines.explanation.print_met.Goals as goal

pub returns : goal.returns
returns g c =
    let s = c.args.explainer.now in
    let same = c.packages-packages.ensures ∙ ap (λ problem. problem.packages) c.remedies.ensures in
    let met = c.package_at.ensures s.problem same in
    let needer = c.package_at-needer.ensures s.problem same ∙ ap (option_and_then (package_at s.problem)) c.needer_of.ensures in
    Says-as _ _ _ _ _ (ap (λ m. needed_text m (option_map (λ p. package_view p.now) c.package_at-needer.result)) met
    ∙ ap (needed_text (option_and_then (package_at s.problem) c.args.met)) needer) c.print_needed.ensures
