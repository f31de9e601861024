use Rattle.std.proofs.Common.{[], ◌∷◌, ◌++◌, All, subst, sym, ap, ◌∙◌}
use Rattle.cudf_value.specs.Promises.Views.{clause_view, vpkg_view}
use Rattle.cudf_job.specs.Keys.{part_place}
use Rattle.cudf_job.specs.KeyViews.{key_view}
use Rattle.cudf_lrat.specs.declared.cnf.Literal.{Literal}
use Rattle.cudf_lrat.specs.Literals.{IsWithin}
use Rattle.cudf_referee.specs.Instances.{PlainWhat, needs, conflicts_with, keep_version, keep_package, keep_feature, install, remove, upgrade, unknown}
use Rattle.cudf_referee.specs.Promises.Views.{instance_view, what_view}
use Rattle.cudf_cnf.specs.Cnf.{Keyed, is_in}
use Rattle.cudf_cnf.specs.Encodings.{PlainKeyedClauses}
use Rattle.cudf_cnf.specs.Working.Parts.{is_many_what}
use Rattle.cudf_cnf.proofs.InstanceLemmas.{arm, package_place, where_is}
use Rattle.cudf_cnf.proofs.PlaceLemmas.{one_in, when}
use Rattle.cudf_cnf.proofs.encoder.Encoder.put_other.Goals as goal

pub put_needs-requires-clause-place : goal.put_needs-requires-clause-place
put_needs-requires-clause-place c =
    let i = instance_view c.args.instance.now in
    package_place c.args.self.now.problem.now i c.args.clauses.now.places (where_is c.args.self.now.problem.now i (needs (clause_view c.in-Needs.clause)) (ap what_view c.in-Needs.is) c.requires.at) c.requires.places c.args.self.now.few

pub put_conflict-requires-clause-place : goal.put_conflict-requires-clause-place
put_conflict-requires-clause-place c =
    let i = instance_view c.args.instance.now in
    package_place c.args.self.now.problem.now i c.args.clauses.now.places (where_is c.args.self.now.problem.now i (conflicts_with (vpkg_view c.in-ConflictsWith.vpkg)) (ap what_view c.in-ConflictsWith.is) c.requires.at) c.requires.places c.args.self.now.few

pub positive_literal-requires : goal.positive_literal-requires
positive_literal-requires c =
    let i = instance_view c.args.instance.now in
    rw c.place_of.ensures (package_place c.args.self.now.problem.now i c.args.clauses.now.places (where_is c.args.self.now.problem.now i keep_version (ap what_view c.in-KeepVersion.is) c.requires.at) c.requires.places c.args.self.now.few).small

pub push-requires : goal.push-requires
push-requires c =
    let i = instance_view c.args.instance.now in
    let place = part_place i.key.part in
    subst (λ (l : Literal). All (IsWithin c.args.clauses.now.places) (l ∷ [])) (sym (c.positive_literal.ensures ∙ ap is_in c.place_of.ensures))
    (one_in c.args.clauses.now.places place (package_place c.args.self.now.problem.now i c.args.clauses.now.places (where_is c.args.self.now.problem.now i keep_version (ap what_view c.in-KeepVersion.is) c.requires.at) c.requires.places c.args.self.now.few))

pub put_upgrade-requires-clause-at : goal.put_upgrade-requires-clause-at
put_upgrade-requires-clause-at c =
    (where_is c.args.self.now.problem.now (instance_view c.args.instance.now) (upgrade (vpkg_view c.in-Upgrade.vpkg)) (ap what_view c.in-Upgrade.is) c.requires.at).is

pub put_upgrade-requires-clause-other : goal.put_upgrade-requires-clause-other
put_upgrade-requires-clause-other c =
    ap (λ (w : PlainWhat). is_many_what w (key_view c.args.instance.now.key).aspect) (sym (ap what_view c.in-Upgrade.is)) ∙ c.requires.other

pub returns-in-Needs-clause-put : goal.returns-in-Needs-clause-put
returns-in-Needs-clause-put c =
    arm c.put_needs.result c.put_needs.new.clauses.clauses c.args.clauses.now.clauses c.args.self.now.problem.now (instance_view c.args.instance.now) (needs (clause_view c.in-Needs.clause)) c.args.self.now.all (ap what_view c.in-Needs.is) c.args.self.now.every c.put_needs.ensures.put

pub returns-in-ConflictsWith-clause-put : goal.returns-in-ConflictsWith-clause-put
returns-in-ConflictsWith-clause-put c =
    arm c.put_conflict.result c.put_conflict.new.clauses.clauses c.args.clauses.now.clauses c.args.self.now.problem.now (instance_view c.args.instance.now) (conflicts_with (vpkg_view c.in-ConflictsWith.vpkg)) c.args.self.now.all (ap what_view c.in-ConflictsWith.is) c.args.self.now.every c.put_conflict.ensures.put

pub returns-in-KeepPackage-clause-put : goal.returns-in-KeepPackage-clause-put
returns-in-KeepPackage-clause-put c =
    arm c.put_named.result c.put_named.new.clauses.clauses c.args.clauses.now.clauses c.args.self.now.problem.now (instance_view c.args.instance.now) (keep_package) c.args.self.now.all (ap what_view c.in-KeepPackage.is) c.args.self.now.every c.put_named.ensures.put

pub returns-in-KeepFeature-clause-put : goal.returns-in-KeepFeature-clause-put
returns-in-KeepFeature-clause-put c =
    arm c.put_meeting.result c.put_meeting.new.clauses.clauses c.args.clauses.now.clauses c.args.self.now.problem.now (instance_view c.args.instance.now) (keep_feature (vpkg_view c.in-KeepFeature.vpkg)) c.args.self.now.all (ap what_view c.in-KeepFeature.is) c.args.self.now.every c.put_meeting.ensures.put

pub returns-in-Install-clause-put : goal.returns-in-Install-clause-put
returns-in-Install-clause-put c =
    arm c.put_meeting-in-Install.result c.put_meeting-in-Install.new.clauses.clauses c.args.clauses.now.clauses c.args.self.now.problem.now (instance_view c.args.instance.now) (install (vpkg_view c.in-Install.vpkg)) c.args.self.now.all (ap what_view c.in-Install.is) c.args.self.now.every c.put_meeting-in-Install.ensures.put

pub returns-in-Remove-clause-put : goal.returns-in-Remove-clause-put
returns-in-Remove-clause-put c =
    arm c.put_removal.result c.put_removal.new.clauses.clauses c.args.clauses.now.clauses c.args.self.now.problem.now (instance_view c.args.instance.now) (remove (vpkg_view c.in-Remove.vpkg)) c.args.self.now.all (ap what_view c.in-Remove.is) c.args.self.now.every c.put_removal.ensures.put

pub returns-in-Upgrade-clause-put : goal.returns-in-Upgrade-clause-put
returns-in-Upgrade-clause-put c =
    arm c.put_upgrade.result c.put_upgrade.new.clauses.clauses c.args.clauses.now.clauses c.args.self.now.problem.now (instance_view c.args.instance.now) (upgrade (vpkg_view c.in-Upgrade.vpkg)) c.args.self.now.all (ap what_view c.in-Upgrade.is) c.args.self.now.every c.put_upgrade.ensures.put

pub returns-in-KeepVersion-clause-put : goal.returns-in-KeepVersion-clause-put
returns-in-KeepVersion-clause-put c =
    arm c.push.result c.push.new.self.clauses c.args.clauses.now.clauses c.args.self.now.problem.now (instance_view c.args.instance.now) keep_version c.args.self.now.all (ap what_view c.in-KeepVersion.is) c.args.self.now.every
    (when c.push.result c.push.ensures.ok (λ e. ap (λ (h : PlainKeyedClauses). h.clauses) e ∙ ap (λ (l : Literal). let k : Keyed = (key_view c.args.instance.now.key, l ∷ []) in c.args.clauses.now.clauses ++ k ∷ []) (c.positive_literal.ensures ∙ ap is_in c.place_of.ensures)))

pub returns-in-Unknown-clause-put : goal.returns-in-Unknown-clause-put
returns-in-Unknown-clause-put c = absurd (where_is c.args.self.now.problem.now (instance_view c.args.instance.now) unknown (ap what_view c.in-Unknown.is) c.requires.at)
