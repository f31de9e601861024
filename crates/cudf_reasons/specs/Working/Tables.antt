-- Reasons in a table.
use Rattle.std.specs.Prelude.{ℕ, ◌≤◌, List, [], length, slice_range, slice_index_or}
use Rattle.cudf_job.specs.Working.Keys.{unknown_key}
use Rattle.cudf_job.specs.KeyViews.{key_view}
use Rattle.cudf_reasons.specs.Reasons.{PlainReason}
use Rattle.cudf_reasons.specs.Views.{Told, told_as}
use Rattle.cudf_reasons.specs.declared.gathering.Reason.{Reason}

-- the reason of a row
abbrev pub reason_in : List ℕ → Reason → PlainReason
reason_in places row = record {
  key = key_view row.key;
  named = slice_range places row.start row.middle;
  met = slice_range places row.middle row.end;
}

-- its places are in the list of all
abbrev pub IsInside : List ℕ → Reason → Type 0
IsInside places row = (row.start ≤ row.middle) × (row.middle ≤ row.end) × (row.end ≤ length places)

abbrev pub no_reason : PlainReason
no_reason = record { key = unknown_key 0; named = []; met = [] }

abbrev pub reason_at : List PlainReason → ℕ → PlainReason
reason_at core index = slice_index_or core index no_reason

abbrev pub told_at : List PlainReason → ℕ → Told
told_at core index = told_as (reason_at core index)
