use Rattle.std.proofs.Common.{◌≡◌, ℕ, length, take}
use Rattle.std.specs.Prelude.{slice_get}
use Rattle.cudf_index.specs.Working.Gathering.{BothAt}
use Rattle.cudf_index.specs.Working.Givers.{Counted, runs}
use Rattle.cudf_index.proofs.index.counts.givers_of.Given as goal

abbrev pub invariant-loop-row : goal.invariant-loop-row
invariant-loop-row l = (length l.givers.items ≡ l.row-index) × ((k : ℕ) → BothAt (λ row. Counted (runs row)) (slice_get (take l.row-index l.rows) k) (slice_get l.givers.items k))
