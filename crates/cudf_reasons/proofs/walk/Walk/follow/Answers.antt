use Rattle.std.proofs.Common.{◌+◌, ◌-◌, ◌<◌, ◌≤◌, ℕ, List, length, ap, ◌∙◌, arith}
use Rattle.cudf_reasons.specs.Reasons.{PlainReason, walk}
use Rattle.cudf_reasons.specs.Working.Walks.{Progress}
use Rattle.cudf_reasons.proofs.OrderLemmas.{walk_on, walk_past_end}
use Rattle.cudf_reasons.proofs.walk.Walk.follow.Goals as goal
use Rattle.cudf_reasons.proofs.walk.Walk.follow.Goals.{then-next-len+in_ok-bring, else-next-len}

pub loop-next-preserved : goal.loop-next-preserved
loop-next-preserved c =
    let all : List PlainReason = c.args.self.now.core in
    let next : ℕ = c.loop-next.next in
    let core : List PlainReason = c.self-in-loop-next.inside.table.now in
    let order : List ℕ = c.self-in-loop-next.inside.order.items in
    let within : next < length all =
    omega (arith, c.loop-next-test.true, c.len-next-end.ensures, c.self.inside.is_told.ok.0, c.self.invariant.marks, ap (λ (p : Progress). length p.core) c.self.view_is) in
    elim c.if-next-len.branch [
      | then-next-len+in_ok-bring w ↦
          let there : next < length order = omega (arith, w.if-next-len.true, c.len.ensures, c.self-in-loop-next.inside.order.ok.0) in
          record {
            core = ap (λ (p : Progress). p.core) (w.self-is ∙ w.in_ok-bring.ensures) ∙ c.loop-next.invariant.core;
            rest =
                walk_on core order c.loop-next.self c.if-next-len.self all next w.index-index.result.now c.self-in-loop-next.view_is c.loop-next.invariant.core within there w.index-index.ensures (w.self-is ∙ w.in_ok-bring.ensures)
                ∙ c.loop-next.invariant.rest;
          }
      | else-next-len w ↦
          let past : length order ≤ next = omega (arith, w.if-next-len.false, c.len.ensures, c.self-in-loop-next.inside.order.ok.0) in
          record {
            core = ap (λ (p : Progress). p.core) w.self-is ∙ c.loop-next.invariant.core;
            rest =
                ap (λ (p : Progress). walk (length all - (next + 1)) all (next + 1) p.told) w.self-is
                ∙ walk_past_end core order c.loop-next.self all next c.self-in-loop-next.view_is within past
                ∙ c.loop-next.invariant.rest;
          }
    ]
