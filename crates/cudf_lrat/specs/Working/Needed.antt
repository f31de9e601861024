-- Which indices are needed.
use Rattle.std.specs.Prelude.{◌≡◌, ℕ, ◌+◌, ◌<◌, Bool, false, List, length, slice_index_or}
use Rattle.cudf_lrat.specs.Answers.{is_listed}
use Rattle.cudf_lrat.specs.Literals.{PlainCnf}
use Rattle.cudf_lrat.specs.Working.Indices.{number_at}
use Rattle.cudf_lrat.specs.declared.steps.ProofSteps.{ProofSteps}

-- those whose numbers are among these
abbrev pub AreNeeded : PlainCnf → ProofSteps → List Bool → List ℕ → Type 0
AreNeeded cnf steps needed numbers =
    (k : ℕ) → k < length cnf.clauses + length steps.numbers.items → slice_index_or needed k false ≡ is_listed (number_at (length cnf.clauses) steps.numbers.items k) numbers
