use Rattle.std.proofs.Common.{◌≡◌, ◌-◌, List, length, Some, sym, ap, ◌∙◌}
use Rattle.std.specs.Prelude.{Option}
use Rattle.cudf_value.specs.Promises.Views.{vpkg_view}
use Rattle.cudf_problem.specs.Statuses.{is_initial}
use Rattle.cudf_index.specs.Satisfaction.{Placed, members}
use Rattle.cudf_job.specs.declared.key.Aspect.{Aspect}
use Rattle.cudf_job.specs.declared.key.Aspect.TheVariants.{Lower}
use Rattle.cudf_job.specs.KeyViews.{key_view}
use Rattle.cudf_lrat.specs.declared.cnf.Literal.{Literal}
use Rattle.cudf_referee.proofs.BeforeLemmas.{greatest-at}
use Rattle.cudf_cnf.specs.Cnf.{upgrade_clauses}
use Rattle.cudf_cnf.specs.Working.Parts.{lower_by}
use Rattle.cudf_cnf.proofs.UpgradeLemmas.{lower_same}
use Rattle.cudf_cnf.proofs.encoding.count_upgrade.Goals as goal

pub returns-in-Some-Lower : goal.returns-in-Some-Lower
returns-in-Some-Lower c =
    let problem = c.args.encoder.now.problem.now in
    let all = c.args.encoder.now.all in
    let before = members (is_initial problem) problem.packages in
    let v = vpkg_view c.args.vpkg.now in
    let key = key_view c.args.key in
    let aspect : key.aspect ≡ Some Lower = sym c.aspect.ensures ∙ c.in-Some-Lower.is ∙ ap Some c.in-Some-Lower.field-0-is in
    let greatest = greatest-at before problem.request.upgrade c.args.encoder.now.before.items (key.place - 1) v c.greatest.result c.requires.before c.requires.at (rw c.place.ensures.value at c.greatest.ensures) in
    c.count_lower.ensures ∙ ap (λ (ps : List Placed). length (lower_by ps v.name c.greatest.result)) c.requires.all
    ∙ ap (λ (ks : List (List Literal)). length ks) (lower_same all before v.name c.greatest.result greatest) ∙ ap (λ (a : Option Aspect). length (upgrade_clauses all before v a)) (sym aspect)
