use Rattle.std.proofs.Common.{None, refl, sym, ◌∙◌, subst}
use Rattle.cudf_job.specs.KeyViews.{key_view}
use Rattle.cudf_referee.specs.Promises.Views.{instance_view}
use Rattle.cudf_referee.specs.Working.PackageInstancesLeft.{placed_view, left_view}
use Rattle.cudf_referee.specs.Working.Sought.{Seeks}
use Rattle.cudf_referee.proofs.SearchLemmas.{nothing-next}
use Rattle.cudf_referee.proofs.SoughtLemmas.{rest-same, rest-on, seeks-past, seeks-found, seeks-end}
use Rattle.cudf_referee.proofs.left.Candidate.seek.Goals as goal

pub loop-instance-init : goal.loop-instance-init
loop-instance-init c = (refl, λ all is. is)

pub returns-then-precedes : goal.returns-then-precedes
returns-then-precedes c = λ all is.
    let same = sym c.loop-instance.invariant.0 ∙ c.in-Some.ensures in
    subst (Seeks (key_view c.args.key) all None) (sym same)
    (seeks-past (key_view c.args.key) all _ _ (sym c.precedes.ensures ∙ c.if-precedes.true) (rest-same _ _ _ _ same (c.loop-instance.invariant.1 all is)))

pub returns : goal.returns
returns c = λ all is.
    let same = sym c.loop-instance.invariant.0 ∙ nothing-next instance_view (left_view (placed_view c.args.self)) c.loop-instance.later c.next.new.left _ c.in_default.is c.next.ensures in
    subst (Seeks (key_view c.args.key) all None) (sym same) (seeks-end (key_view c.args.key) all (rest-same _ _ _ _ same (c.loop-instance.invariant.1 all is)))

pub returns-then-not-precedes : goal.returns-then-not-precedes
returns-then-not-precedes c = λ all is.
    seeks-found (key_view c.args.key) all _ _ (sym c.precedes.ensures ∙ c.if-precedes.false) (sym c.precedes-in-Some.ensures ∙ c.if-not-precedes.true)
    (rest-same _ _ _ _ (sym c.loop-instance.invariant.0 ∙ c.in-Some.ensures) (c.loop-instance.invariant.1 all is))

pub loop-instance-preserved : goal.loop-instance-preserved
loop-instance-preserved c = (
  refl,
  λ all is.
      rest-on (key_view c.args.key) all _ _ (sym c.precedes.ensures ∙ c.if-precedes.false) (sym c.precedes-in-Some.ensures ∙ c.if-not-precedes.false)
      (rest-same _ _ _ _ (sym c.loop-instance.invariant.0 ∙ c.in-Some.ensures) (c.loop-instance.invariant.1 all is)),
)
