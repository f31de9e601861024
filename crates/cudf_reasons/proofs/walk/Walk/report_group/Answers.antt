use Rattle.std.proofs.Common.{◌≡◌, ◌<◌, ℕ, true, false, List, length, ap, ◌∙◌, subst, arith}
use Rattle.cudf_reasons.specs.Reasons.{PlainReason, with_reason}
use Rattle.cudf_reasons.specs.Working.Tables.{no_reason, reason_at}
use Rattle.cudf_reasons.specs.Working.Walks.{is_root, Progress}
use Rattle.cudf_reasons.proofs.MarkLemmas.{next_fails, next_passes}
use Rattle.cudf_reasons.proofs.walk.Walk.report_group.Goals as goal
use Rattle.cudf_reasons.proofs.walk.Walk.report_group.Goals.{then-is_in_group+in_ok-tell, else-is_in_group}

pub loop-index-preserved : goal.loop-index-preserved
loop-index-preserved c =
    let p : Progress = c.args.self.now in
    let i : ℕ = c.loop-index.index in
    let within : i < length p.core = omega (arith, c.loop-index-test.true, c.len-index-end.ensures, ap (λ (q : Progress). length q.core) c.self.view_is) in
    elim c.if-is_in_group.branch [
      | then-is_in_group+in_ok-tell w ↦ w.self-is ∙ w.in_ok-tell.ensures
          ∙ ap (λ (q : Progress). record q { told = with_reason q.told (reason_at q.core i) }) c.loop-index.invariant
          ∙ ap (λ (t : List PlainReason). record p { told = t }) (next_passes (is_root c.args.root) p.core p.told i within
          (subst (λ (q : Progress). is_root c.args.root (reason_at q.core i) ≡ true) c.self.view_is (c.is_in_group.ensures no_reason ∙ w.if-is_in_group.true)))
      | else-is_in_group w ↦ w.self-is ∙ c.loop-index.invariant
          ∙ ap (λ (t : List PlainReason). record p { told = t }) (next_fails (is_root c.args.root) p.core p.told i within
          (subst (λ (q : Progress). is_root c.args.root (reason_at q.core i) ≡ false) c.self.view_is (c.is_in_group.ensures no_reason ∙ w.if-is_in_group.false)))
    ]
