use Rattle.std.proofs.Common.{◌≡◌, ℕ, ◌-◌, ◌<◌, ◌≤◌, true, length}
use Rattle.cudf_job.specs.KeyViews.{key_view}
use Rattle.cudf_reasons.specs.Working.Gathered.{is_at}
use Rattle.cudf_reasons.proofs.gathering.count_of_key.Given as goal

abbrev pub invariant-loop-count : goal.invariant-loop-count
invariant-loop-count l = record {
  within : l.count ≤ length l.needed;
  same : (k : ℕ) → k < l.count → is_at l.needed k (key_view l.key) ≡ true;
}

abbrev pub decreases-loop-count : goal.decreases-loop-count
decreases-loop-count l = length l.initial.needed - l.count
