use Rattle.std.proofs.Common.{subst}
use Rattle.std.specs.Prelude.{slice_get}
use Rattle.std.proofs.lemmas.List.{take_all}
use Rattle.cudf_index.specs.Working.Gathering.{Completes, CompletesAt}
use Rattle.cudf_index.proofs.GatheringLemmas.{one_more}
use Rattle.cudf_index.proofs.index.gathered_names.summarize_all.Goals as goal

pub loop-row-preserved : goal.loop-row-preserved
loop-row-preserved c =
    one_more Completes c.args.rows.now c.loop-row.entries.items c.push.new.self.items c.loop-row.row-index c.row-item.result c.in_ok-summarize.field-0
    c.loop-row-test.true c.loop-row.invariant.0 c.loop-row.invariant.1 c.row-item.is (subst (λ row. Completes row c.in_ok-summarize.field-0) c.as_slice.ensures c.in_ok-summarize.ensures) c.in_ok-push.ensures.items

pub returns : goal.returns
returns c = λ k.
    subst (λ rows. CompletesAt (slice_get rows k) (slice_get c.loop-row.entries.items k)) (take_all c.loop-row.row-index c.args.rows.now c.loop-row-test.false) (c.loop-row.invariant.1 k)
