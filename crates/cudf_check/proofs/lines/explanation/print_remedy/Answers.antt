use Rattle.std.proofs.Common.{◌≡◌, true, [], Some, None, option_map, option_and_then, if◌then◌else◌, sym, ap, ◌∙◌}
use Rattle.cudf_problem.specs.Promises.Views.{package_view}
use Rattle.cudf_problem.specs.Universe.{package_at}
use Rattle.cudf_referee.specs.Explanations.{was_installed, would_do}
use Rattle.cudf_referee.specs.Promises.Views.{instance_view}
use Rattle.cudf_check.specs.Explanations.{help_text, lacks_package, said_of}
use Rattle.cudf_check.specs.Working.Named.{listed_by, origin_view}
use Rattle.cudf_device.proofs.PaperLemmas.{Says-as, ◌▸◌}
use Rattle.cudf_check.proofs.lines.explanation.print_remedy.Goals as goal

pub returns-in-Some : goal.returns-in-Some
returns-in-Some g c =
    let problem = c.args.remedies.now in
    let i = instance_view c.args.instance.now in
    let listed = listed_by (option_map origin_view c.args.listed.origin) c.args.listed.lines.now in
    let lacks : lacks_package i.what i.key.aspect ≡ true = sym c.lacks_package.ensures ∙ c.if-lacks_package.true in
    let named : option_and_then (package_at problem) (was_installed problem i) ≡ Some (package_view c.in-Some.package.now) =
    ap (option_and_then (package_at problem)) (sym c.installed_remedy-before.ensures) ∙ sym (c.package_at-named.ensures problem c.packages-packages.ensures)
    ∙ ap (option_map (λ p. package_view p.now)) c.in-Some.is in
    let does = option_and_then (package_at problem) (would_do problem i) in
    Says-as _ _ _ _ _ (λ k. if sym lacks k then help_text (sym named k) (said_of listed (c.installed_remedy-before.ensures k)) does (said_of listed (would_do problem i)) else [])
    (c.print_was_installed.ensures ▸ c.print_listed.ensures)

pub returns-in-None : goal.returns-in-None
returns-in-None g c =
    let problem = c.args.remedies.now in
    let i = instance_view c.args.instance.now in
    let listed = listed_by (option_map origin_view c.args.listed.origin) c.args.listed.lines.now in
    let lacks : lacks_package i.what i.key.aspect ≡ true = sym c.lacks_package.ensures ∙ c.if-lacks_package.true in
    let none : option_and_then (package_at problem) (was_installed problem i) ≡ None =
    ap (option_and_then (package_at problem)) (sym c.installed_remedy-before.ensures) ∙ sym (c.package_at-named.ensures problem c.packages-packages.ensures)
    ∙ ap (option_map (λ p. package_view p.now)) c.in-None.is in
    let does : option_map (λ p. package_view p.now) c.package_at-helper.result ≡ option_and_then (package_at problem) (would_do problem i) =
    c.package_at-helper.ensures problem c.packages-packages.ensures ∙ ap (option_and_then (package_at problem)) c.first_remedy-does.ensures in
    Says-as _ _ _ _ _ (λ k. if sym lacks k then help_text (sym none k) (said_of listed (was_installed problem i)) (does k) (said_of listed (c.first_remedy-does.ensures k)) else [])
    (c.print_would_do.ensures ▸ c.print_listed-in-None.ensures)
