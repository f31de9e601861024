use Rattle.std.proofs.Common.{rules, ℕ, ◌≤◌, ◌≡◌, true, false, List, length, subst, sym}
use Rattle.std.specs.Prelude.{IsTrue}
use Rattle.std.specs.List.Sorted.{IsPartitionedBy, IsPartitionPoint}
use Rattle.std.proofs.lemmas.List.Sorted.{IsPartitionPoint-from_clause}
use Rattle.cudf_reasons.specs.Reasons.{PlainReason}
use Rattle.cudf_reasons.specs.Working.Walks.{IsRunOf, keys_ascend}
use Rattle.cudf_reasons.specs.declared.gathering.Reason.{Reason}
use Rattle.cudf_reasons.proofs.RunLemmas.{parted_before, parted_upto, row_before, row_upto, run_is}
use Rattle.cudf_reasons.proofs.gathering.Table.run_of.Goals as goal

pub returns : goal.returns
returns c =
    let place : ℕ = c.from-place.result in
    let places : List ℕ = c.self.inside.places.items in
    let rows : List Reason = c.self.inside.rows.items in
    let start : ℕ = c.partition_point-start.result in
    let end : ℕ = c.partition_point-end.result in
    let up = subst (λ (core : List PlainReason). IsTrue (keys_ascend core)) (sym c.self.view_is) c.requires in
    let first : IsPartitionPoint (λ (row : Reason). row_before place row ≡ true) (λ row. row_before place row ≡ false) rows start =
    subst (λ (rs : List Reason). IsPartitionPoint (λ row. row_before place row ≡ true) (λ row. row_before place row ≡ false) rs start) c.deref.ensures.value
    (IsPartitionPoint-from_clause (row_before place) c.deref.result.now start c.partition_point-start.ensures.partitioned
    (subst (λ (rs : List Reason). IsPartitionedBy (row_before place) rs) (sym c.deref.ensures.value) (parted_before places rows place up)) (λ a r f' q. search rules)) in
    let last : IsPartitionPoint (λ (row : Reason). row_upto place row ≡ true) (λ row. row_upto place row ≡ false) rows end =
    subst (λ (rs : List Reason). IsPartitionPoint (λ row. row_upto place row ≡ true) (λ row. row_upto place row ≡ false) rs end) c.deref-2.ensures.value
    (IsPartitionPoint-from_clause (row_upto place) c.deref-2.result.now end c.partition_point-end.ensures.partitioned
    (subst (λ (rs : List Reason). IsPartitionedBy (row_upto place) rs) (sym c.deref-2.ensures.value) (parted_upto places rows place up)) (λ a r f' q. search rules)) in
    let within : end ≤ length rows = subst (λ (rs : List Reason). end ≤ length rs) c.deref-2.ensures.value c.partition_point-end.ensures.bound in
    let is = run_is places rows place start end within first last in
    let found = subst (λ (core : List PlainReason). IsRunOf core place (record { start = start; end = end })) c.self.view_is is in
    subst (λ (n : ℕ). IsRunOf c.args.self.now n (record { start = start; end = end })) c.from-place.ensures found
