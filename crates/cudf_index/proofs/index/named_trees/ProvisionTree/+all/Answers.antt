use Rattle.std.proofs.Common.{sym, ap, ◌∙◌}
use Rattle.std.proofs.lemmas.Result.{IfOk-equal}
use Rattle.cudf_index.specs.Working.ProvisionTest.{some_passes, with_new, with_all}
use Rattle.cudf_index.proofs.WantedLemmas.{second_wanted, sole_wanted, both_wanted}
use Rattle.cudf_index.proofs.index.named_trees.ProvisionTree.+all.Goals as goal
use Rattle.cudf_index.proofs.index.named_trees.ProvisionTree.+all.Goals.{in-Some+in_ok-push_new-in-Some, in-None+in_ok-all-in-None}

pub returns-then-not-some_passes : goal.returns-then-not-some_passes
returns-then-not-some_passes t c =
    IfOk-equal c.all.result _ _ _ c.all.ensures
    (ap (with_all c.args.wanted c.args.places.now.items) c.deref-then-not-some_passes.ensures
    ∙ second_wanted c.args.wanted c.self.inside.node c.args.self.now c.in-Halves.entries c.in-Halves.front c.in-Halves.back c.self.view_is c.self.invariant c.in-Halves.is c.args.places.now.items
    (ap (some_passes c.args.wanted) (sym c.deref-in-Halves.ensures) ∙ sym c.some_passes.ensures ∙ c.if-not-some_passes.true))

pub returns-after-deref : goal.returns-after-deref
returns-after-deref t c = elim c.match-deref.branch [
  | in-Some+in_ok-push_new-in-Some w ↦
      IfOk-equal c.all-in-Halves.result _ _ _ c.all-in-Halves.ensures
      (ap (λ ps. with_all c.args.wanted ps.items c.deref-in-Halves-3.result.now) w.places-is
      ∙ ap (λ ps. with_all c.args.wanted ps c.deref-in-Halves-3.result.now) (w.in_ok-push_new-in-Some.ensures)
      ∙ ap (with_all c.args.wanted (with_new c.args.places.now.items w.in-Some.place)) c.deref-in-Halves-3.ensures
      ∙ sole_wanted c.args.wanted c.self.inside.node c.args.self.now c.in-Halves.entries c.in-Halves.front c.in-Halves.back c.self.view_is c.self.invariant c.in-Halves.is c.args.places.now.items w.in-Some.place
      (sym w.in-Some.is ∙ ap (λ e. e.sole) c.deref-in-Halves-2.ensures)
      (ap (some_passes c.args.wanted) (sym c.deref-in-Halves.ensures) ∙ sym c.some_passes.ensures ∙ c.if-not-some_passes.false))
  | in-None+in_ok-all-in-None w ↦
      IfOk-equal c.all-in-Halves.result _ _ _ c.all-in-Halves.ensures
      (ap (λ ps. with_all c.args.wanted ps.items c.deref-in-Halves-3.result.now) w.places-is
      ∙ ap (λ ps. with_all c.args.wanted ps c.deref-in-Halves-3.result.now) (w.in_ok-all-in-None.ensures)
      ∙ ap (λ front. with_all c.args.wanted (with_all c.args.wanted c.args.places.now.items front) c.deref-in-Halves-3.result.now) w.deref-in-None.ensures
      ∙ ap (with_all c.args.wanted (with_all c.args.wanted c.args.places.now.items c.in-Halves.front.value)) c.deref-in-Halves-3.ensures
      ∙ both_wanted c.args.wanted c.self.inside.node c.args.self.now c.in-Halves.entries c.in-Halves.front c.in-Halves.back c.self.view_is c.self.invariant c.in-Halves.is c.args.places.now.items)
]
