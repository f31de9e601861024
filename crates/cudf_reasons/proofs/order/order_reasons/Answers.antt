use Rattle.std.proofs.Common.{List, map, sym, subst}
use Rattle.std.specs.Prelude.{IsTrue}
use Rattle.cudf_reasons.specs.Reasons.{PlainReason}
use Rattle.cudf_reasons.specs.Views.{needed_view}
use Rattle.cudf_reasons.specs.Working.Walks.{keys_ascend}
use Rattle.cudf_reasons.proofs.GroupLemmas.{core_ascends}
use Rattle.cudf_reasons.proofs.OrderLemmas.{told_listed}
use Rattle.cudf_reasons.proofs.order.order_reasons.Goals as goal

pub order_of-requires : goal.order_of-requires
order_of-requires c = subst (λ (core : List PlainReason). IsTrue (keys_ascend core)) (sym c.in_ok-table.ensures) (core_ascends (map needed_view c.args.needed.now) c.requires)

pub returns : goal.returns
returns c = told_listed c.in_ok-table.table (map needed_view c.args.needed.now) c.in_ok-order.order.items c.in_ok-table.ensures c.in_ok-order.ensures.order
