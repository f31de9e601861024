use Rattle.std.proofs.Common.{◌≡◌, ℕ, false, ◌||◌, ◌==◌, get_or, take}
use Rattle.std.specs.List.{list_any}
use Rattle.cudf_lrat.proofs.steps.mark_needed.Given as goal

abbrev pub invariant-loop-index : goal.invariant-loop-index
invariant-loop-index l = (k : ℕ) → get_or l.needed k false ≡ (list_any (λ i. i == k) (take l.index-index l.indices) || get_or l.initial.needed k false)
