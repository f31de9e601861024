use Rattle.std.proofs.Common.{◌≡◌, ℕ, ◌-◌, ◌<◌, Bool, not, List, ap, sym, ◌∙◌, subst, refl}
use Rattle.std.specs.Prelude.{slice_get}
use Rattle.std.specs.FinSet as set
use Rattle.cudf_value.specs.Promises.Views.{vpkg_view}
use Rattle.cudf_index.specs.Satisfaction.{Placed, satisfies, without}
use Rattle.cudf_job.specs.Keys.{part_place}
use Rattle.cudf_referee.specs.Instances.{PlainWhat, conflicts_with, keep_version, keep_package, upgrade, PlainInstance}
use Rattle.cudf_referee.specs.Promises.Views.{instance_view, what_view}
use Rattle.cudf_referee.specs.Proposals.{Proposal, holds_place}
use Rattle.cudf_referee.specs.Violations.{is_violated, is_what_violated}
use Rattle.cudf_referee.specs.Working.Located.{IsLocated, IsWhatLocated}
use Rattle.cudf_referee.specs.Working.Walkers.{put_forward}
use Rattle.cudf_referee.proofs.rules.is_violated.Goals as goal

-- by what it says
by-what : (s : Proposal) (i : PlainInstance) (what : PlainWhat) (answer : Bool) → i.what ≡ what → IsLocated s i → (IsWhatLocated s i what → answer ≡ is_what_violated s i what) → answer ≡ is_violated s i
by-what s i what answer same located is = is (subst (IsWhatLocated s i) same located) ∙ ap (is_what_violated s i) (sym same)

pub returns-in-ConflictsWith-clause-answer : goal.returns-in-ConflictsWith-clause-answer
returns-in-ConflictsWith-clause-answer c = λ problem unknown agrees located.
    let status = c.args.now.now.status in
    let v = vpkg_view c.in-ConflictsWith.vpkg in
    by-what (put_forward problem c.args.now.now.status unknown) (instance_view c.args.instance.now) (conflicts_with v) _ (ap what_view c.in-ConflictsWith.is) located
    (λ own. c.satisfies_without_counted.ensures.answer ∙ ap (λ n. satisfies (without n status) v) c.place_of.ensures ∙ ap (λ (ps : List Placed). satisfies ps v) (sym (own status)))

pub returns-in-KeepVersion-clause-answer : goal.returns-in-KeepVersion-clause-answer
returns-in-KeepVersion-clause-answer c = λ problem unknown agrees located.
    let test = set.contains c.args.known.status.now in
    by-what (put_forward problem c.args.now.now.status unknown) (instance_view c.args.instance.now) keep_version _ (ap what_view c.in-KeepVersion.is) located
    (λ held. ap not (c.holds.ensures ∙ ap test c.place_of-in-KeepVersion.ensures ∙ sym (held test) ∙ ap (λ (ps : List Placed). holds_place ps (part_place (instance_view c.args.instance.now).key.part)) (sym agrees.is)))

pub returns-in-KeepPackage-clause-answer : goal.returns-in-KeepPackage-clause-answer
returns-in-KeepPackage-clause-answer c = λ problem unknown agrees located.
    let place = c.place_of-in-KeepPackage.ensures in
    by-what (put_forward problem c.args.now.now.status unknown) (instance_view c.args.instance.now) keep_package _ (ap what_view c.in-KeepPackage.is) located
    (λ named. ap not (c.flag_at.ensures _ (subst (λ (n : ℕ). 0 < n) (sym place) named.0)
    (ap (λ n. slice_get c.args.known.named.now (n - 1)) place ∙ ap (λ (fs : List Bool). slice_get fs (part_place (instance_view c.args.instance.now).key.part - 1)) agrees.flags ∙ named.1)))

pub returns-in-Upgrade-clause-answer : goal.returns-in-Upgrade-clause-answer
returns-in-Upgrade-clause-answer c = λ problem unknown agrees located.
    by-what (put_forward problem c.args.now.now.status unknown) (instance_view c.args.instance.now) (upgrade (vpkg_view c.in-Upgrade.vpkg)) _ (ap what_view c.in-Upgrade.is) located
    (c.is_aspect_violated.ensures.answer (put_forward problem c.args.now.now.status unknown) refl agrees.numbers)
