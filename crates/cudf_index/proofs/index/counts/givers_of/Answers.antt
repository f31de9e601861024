use Rattle.std.proofs.Common.{subst}
use Rattle.std.specs.Prelude.{slice_get}
use Rattle.std.proofs.lemmas.List.{take_all}
use Rattle.cudf_index.specs.Working.Gathering.{BothAt}
use Rattle.cudf_index.specs.Working.Givers.{Counted, runs}
use Rattle.cudf_index.proofs.GatheringLemmas.{one_more}
use Rattle.cudf_index.proofs.index.counts.givers_of.Goals as goal

pub loop-row-preserved : goal.loop-row-preserved
loop-row-preserved c =
    one_more (λ row. Counted (runs row)) c.args.rows.now c.loop-row.givers.items c.push.new.self.items c.loop-row.row-index c.row-item.result c.in_ok-counted.field-0
    c.loop-row-test.true c.loop-row.invariant.0 c.loop-row.invariant.1 c.row-item.is (subst (λ row. Counted (runs row) c.in_ok-counted.field-0) c.as_slice.ensures c.in_ok-counted.ensures) c.in_ok-push.ensures.items

pub returns : goal.returns
returns c = λ k.
    subst (λ rows. BothAt (λ row. Counted (runs row)) (slice_get rows k) (slice_get c.loop-row.givers.items k)) (take_all c.loop-row.row-index c.args.rows.now c.loop-row-test.false) (c.loop-row.invariant.1 k)
