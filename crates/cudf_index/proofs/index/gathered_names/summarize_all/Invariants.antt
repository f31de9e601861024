use Rattle.std.proofs.Common.{◌≡◌, ℕ, length, take}
use Rattle.std.specs.Prelude.{slice_get}
use Rattle.cudf_index.specs.Working.Gathering.{CompletesAt}
use Rattle.cudf_index.proofs.index.gathered_names.summarize_all.Given as goal

abbrev pub invariant-loop-row : goal.invariant-loop-row
invariant-loop-row l = (length l.entries.items ≡ l.row-index) × ((k : ℕ) → CompletesAt (slice_get (take l.row-index l.rows) k) (slice_get l.entries.items k))
