-- How far a walk has come.
use Rattle.std.specs.Prelude.{◌≡◌, ℕ, ◌<◌, ◌≤◌, Bool, true, false, not, ◌&&◌, nat_lt, nat_le, List, length, map, slice_index_or, All, IsTrue}
use Rattle.cudf_job.specs.Keys.{ascend}
use Rattle.cudf_reasons.specs.Reasons.{PlainReason, is_asked, is_kept, is_brought_by, is_new}
use Rattle.cudf_reasons.specs.Working.Tables.{reason_at}
use Rattle.cudf_reasons.specs.declared.gathering.ReasonGroup.{ReasonGroup}
use Rattle.cudf_reasons.specs.declared.gathering.ReasonGroup.TheVariants.{Asked, Kept, Any}
use Rattle.cudf_reasons.specs.declared.gathering.Run.{Run}

abbrev pub is_root : ReasonGroup → PlainReason → Bool
is_root Asked reason = is_asked reason
is_root Kept reason = is_kept reason
is_root Any reason = true

-- the reasons that the package brings in are those of the run
pub record IsRunOf (core : List PlainReason) (place : ℕ) (run : Run) : Type 0 where
  pub within : run.end ≤ length core
  pub those : (k : ℕ) → k < length core → is_brought_by place (reason_at core k) ≡ (nat_le run.start k && nat_lt k run.end)

-- the core, and those of it that were reported
pub record Progress : Type 0 where
  pub core : List PlainReason
  pub told : List PlainReason

abbrev pub keys_ascend : List PlainReason → Bool
keys_ascend core = ascend (map (λ reason. reason.key) core)

-- the marks are those of the reasons that were reported; where a package is followed, all that it brings in were
pub record IsMarked (core : List PlainReason) (order : List ℕ) (is_told is_followed : List Bool) : Type 0 where
  pub ordered : IsTrue (keys_ascend core)
  pub within : All (λ index. index < length core) order
  pub marks : length is_told ≡ length core
  pub marked : (k : ℕ) → k < length core → is_new (map (reason_at core) order) (reason_at core k) ≡ not (slice_index_or is_told k false)
  pub packages : length is_followed ≡ length core
  pub followed : (place s k : ℕ) → s < length core → k < length core → slice_index_or is_followed s false ≡ true
      → is_brought_by place (reason_at core s) ≡ true → is_brought_by place (reason_at core k) ≡ true → slice_index_or is_told k false ≡ true
