use Rattle.std.proofs.Common.{ap, sym, ◌∙◌}
use Rattle.std.specs.FinSet as set
use Rattle.cudf_problem.specs.Promises.Views.{package_view}
use Rattle.cudf_index.proofs.ClauseLemmas.{member_put, member_left_out}
use Rattle.cudf_index.proofs.index.Index.put_members.Goals as goal
use Rattle.cudf_index.proofs.index.Index.put_members.Goals.{then-holds+in_ok-push, else-holds}

pub loop-before-preserved : goal.loop-before-preserved
loop-before-preserved c =
    let holds = set.contains c.self.inside.status in
    let packages = c.packages-package-items.result.now in
    let i = c.loop-before.before in
    let next = c._package-item.result in
    let old = c.args.places.now.items in
    let done = c.loop-before.places.items in
    elim c.if-holds.branch [
      | then-holds+in_ok-push w ↦
          member_put package_view holds packages i next c.loop-before-test.true old done _ (sym c.holds.ensures ∙ w.if-holds.true) c.loop-before.invariant (ap (λ places. places.items) w.places-is ∙ w.in_ok-push.ensures.items)
      | else-holds w ↦
          ap (λ places. places.items) w.places-is ∙ member_left_out package_view holds packages i next c.loop-before-test.true old done (sym c.holds.ensures ∙ w.if-holds.false) c.loop-before.invariant
    ]
