use Rattle.std.proofs.Common.{ℕ, ◌+◌, ap, sym, ◌∙◌, length, not, ◌++◌}
use Rattle.std.specs.FinSet as set
use Rattle.cudf_problem.specs.Promises.Views.{package_view}
use Rattle.cudf_index.specs.Working.Gathering.{row_of, given_by}
use Rattle.cudf_index.proofs.GatheringLemmas.{given_kept, given_left_out}
use Rattle.cudf_index.proofs.index.named_trees.gathered.Goals as goal
use Rattle.cudf_index.proofs.index.named_trees.gathered.Goals.{then-not-holds+in_ok-add_package, else-not-holds}

pub loop-before-preserved : goal.loop-before-preserved
loop-before-preserved c =
    let is_outside = λ (place : ℕ). not (set.contains c.args.without.now place) in
    let packages = c.packages-package-items.result.now in
    let i = c.loop-before.before in
    let next = c.package-item.result in
    elim c.if-not-holds.branch [
      | then-not-holds+in_ok-add_package w ↦ (
        ap (λ g. length g.rows.items) w.gathered-is ∙ w.in_ok-add_package.ensures.lengths ∙ sym (ap (λ g. length g.names.keys) w.gathered-is),
        λ f. ap (row_of f) w.gathered-is ∙ given_kept package_view f is_outside packages i next c.loop-before-test.true (row_of f c.loop-before.gathered) _ (ap not (sym c.holds.ensures ∙ w.if-not-holds.true)) (c.loop-before.invariant.1 f)
            (w.in_ok-add_package.ensures.rows f ∙ ap (λ p. row_of f c.loop-before.gathered ++ given_by f (i + 1, package_view p)) c.package-item.is),
      )
      | else-not-holds w ↦ (
        ap (λ g. length g.rows.items) w.gathered-is ∙ c.loop-before.invariant.0 ∙ sym (ap (λ g. length g.names.keys) w.gathered-is),
        λ f. ap (row_of f) w.gathered-is ∙ given_left_out package_view f is_outside packages i next c.loop-before-test.true (row_of f c.loop-before.gathered) (ap not (sym c.holds.ensures ∙ w.if-not-holds.false)) (c.loop-before.invariant.1 f),
      )
    ]
