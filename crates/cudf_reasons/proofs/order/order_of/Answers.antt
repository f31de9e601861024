use Rattle.std.proofs.Common.{◌≡◌, map, subst}
use Rattle.cudf_reasons.specs.Working.Tables.{reason_at}
use Rattle.cudf_reasons.specs.Working.Walks.{Progress}
use Rattle.cudf_reasons.proofs.OrderLemmas.{told_in_order}
use Rattle.cudf_reasons.proofs.order.order_of.Goals as goal

pub returns-clause-order : goal.returns-clause-order
returns-clause-order c =
    subst (λ (p : Progress). map (reason_at p.core) c.into_order.result.items ≡ p.told)
    (told_in_order c.args.table.now c.in_ok-walk.walk c.report_group.new.self c.report_group-2.new.self c.follow.new.self c.report_group-3.new.self
    c.in_ok-walk.ensures c.in_ok-report_group.ensures c.in_ok-report_group-2.ensures c.in_ok-follow.ensures c.in_ok-report_group-3.ensures)
    c.into_order.ensures.order
