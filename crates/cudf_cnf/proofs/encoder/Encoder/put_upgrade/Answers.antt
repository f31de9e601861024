use Rattle.std.proofs.Common.{◌≡◌, ◌-◌, [], ◌∷◌, ◌++◌, Some, None, sym, ap, ◌∙◌}
use Rattle.std.specs.Prelude.{Option}
use Rattle.std.proofs.lemmas.Bool.{true≢false}
use Rattle.std.proofs.lemmas.List.{append-nil}
use Rattle.cudf_value.specs.Promises.Views.{vpkg_view}
use Rattle.cudf_problem.specs.Statuses.{is_initial}
use Rattle.cudf_index.specs.Satisfaction.{members, meets_alone}
use Rattle.cudf_job.specs.declared.key.Aspect.{Aspect}
use Rattle.cudf_job.specs.declared.key.Aspect.TheVariants.{Unsatisfied, Many, Lower}
use Rattle.cudf_job.specs.KeyViews.{key_view}
use Rattle.cudf_referee.specs.Instances.{upgrade}
use Rattle.cudf_referee.proofs.BeforeLemmas.{greatest-at}
use Rattle.cudf_cnf.specs.Cnf.{one_of, upgrade_clauses}
use Rattle.cudf_cnf.specs.Working.Parts.{is_many_what, keyed, lower_by}
use Rattle.cudf_cnf.proofs.PlaceLemmas.{put_as}
use Rattle.cudf_cnf.proofs.UpgradeLemmas.{lower_same}
use Rattle.cudf_cnf.proofs.encoder.Encoder.put_upgrade.Goals as goal

pub returns-in-None-clause-put : goal.returns-in-None-clause-put
returns-in-None-clause-put c =
    let problem = c.args.self.now.problem.now in
    let aspect : (key_view c.args.key).aspect ≡ None = sym c.aspect.ensures ∙ c.in-None.is in
    sym (append-nil c.args.clauses.now.clauses)
    ∙ ap (λ (a : Option Aspect). c.args.clauses.now.clauses ++ keyed (key_view c.args.key) (upgrade_clauses c.args.self.now.all (members (is_initial problem) problem.packages) (vpkg_view c.args.vpkg.now) a)) (sym aspect)

pub returns-in-Some-Unsatisfied-clause-put : goal.returns-in-Some-Unsatisfied-clause-put
returns-in-Some-Unsatisfied-clause-put c =
    let problem = c.args.self.now.problem.now in
    let all = c.args.self.now.all in
    let before = members (is_initial problem) problem.packages in
    let v = vpkg_view c.args.vpkg.now in
    let key = key_view c.args.key in
    let variant : c.in-Some-Unsatisfied.field-0 ≡ Unsatisfied = c.in-Some-Unsatisfied.field-0-is in
    let aspect : key.aspect ≡ Some Unsatisfied = sym c.aspect.ensures ∙ c.in-Some-Unsatisfied.is ∙ ap Some variant in
    put_as c.put_meeting.result c.put_meeting.new.clauses.clauses c.args.clauses.now.clauses ((key, one_of (meets_alone v) all) ∷ []) (keyed key (upgrade_clauses all before v key.aspect))
    (ap (λ (a : Option Aspect). keyed key (upgrade_clauses all before v a)) (sym aspect)) c.put_meeting.ensures.put

pub returns-in-Some-Many-clause-put : goal.returns-in-Some-Many-clause-put
returns-in-Some-Many-clause-put c =
    let variant : c.in-Some-Many.field-0 ≡ Many = c.in-Some-Many.field-0-is in
    let aspect : (key_view c.args.key).aspect ≡ Some Many = sym c.aspect.ensures ∙ c.in-Some-Many.is ∙ ap Some variant in
    absurd (true≢false (ap (is_many_what (upgrade (vpkg_view c.args.vpkg.now))) (sym aspect) ∙ c.requires.other))

pub returns-in-Some-Lower-clause-put : goal.returns-in-Some-Lower-clause-put
returns-in-Some-Lower-clause-put c =
    let problem = c.args.self.now.problem.now in
    let all = c.args.self.now.all in
    let before = members (is_initial problem) problem.packages in
    let v = vpkg_view c.args.vpkg.now in
    let key = key_view c.args.key in
    let variant : c.in-Some-Lower.field-0 ≡ Lower = c.in-Some-Lower.field-0-is in
    let aspect : key.aspect ≡ Some Lower = sym c.aspect.ensures ∙ c.in-Some-Lower.is ∙ ap Some variant in
    let greatest = greatest-at before problem.request.upgrade c.args.self.now.before.items (key.place - 1) v c.greatest-greatest.result c.requires.before c.requires.at (rw c.place.ensures.value at c.greatest-greatest.ensures) in
    put_as c.put_lower.result c.put_lower.new.clauses.clauses c.args.clauses.now.clauses (keyed key (lower_by all v.name c.greatest-greatest.result)) (keyed key (upgrade_clauses all before v key.aspect))
    (ap (keyed key) (lower_same all before v.name c.greatest-greatest.result greatest) ∙ ap (λ (a : Option Aspect). keyed key (upgrade_clauses all before v a)) (sym aspect)) c.put_lower.ensures.put
