-- What a proof shows of a CNF.
use Rattle.std.specs.Prelude.{ℕ, ◌+◌, max, Bool, ◌==◌, List, [], ◌∷◌, ◌++◌, length, filter, position, Option, Some, None, Result, Ok, Err, if◌then◌else◌}
use Rattle.std.specs.List.{list_any, range_with_len}
use Rattle.cudf_text.specs.Lines.{lines}
use Rattle.cudf_lrat.specs.Lines.{ProofLine, skipped, step, invalid, is_empty, proof_line}
use Rattle.cudf_lrat.specs.Steps.{Derived, greatest_number, step_result}
use Rattle.cudf_lrat.specs.declared.checker.Answer.{Answer}
use Rattle.cudf_lrat.specs.declared.checker.Answer.TheVariants.{Refuted, Faulty}
use Rattle.cudf_lrat.specs.declared.checker.ProofFault.{ProofFault}
use Rattle.cudf_lrat.specs.declared.checker.ProofFault.TheVariants.{NotAStep, EndsEarly}
use Rattle.cudf_lrat.specs.declared.cnf.Literal.{Literal}

-- ---- the core

abbrev pub is_listed : ℕ → List ℕ → Bool
is_listed number numbers = list_any (λ n. n == number) numbers

-- the numbers, and those that the steps with these numbers used, and so on; the last step first
abbrev pub needs : List Derived → List ℕ → List ℕ
needs [] numbers = numbers
needs (s ∷ earlier) numbers = needs earlier (if is_listed s.number numbers then s.used ++ numbers else numbers)

-- the numbers of the CNF's clauses that the last step needs, ascending
unfoldable pub core : List (List Literal) → List Derived → List ℕ
core cnf steps = filter (λ number. is_listed number (needs steps (greatest_number cnf steps ∷ []))) (range_with_len 1 (length cnf))

-- ---- lines

-- what a line does to the steps before it, the last one first
pub data ProofState : Type 0 where
  on : List Derived → ProofState
  -- the last step has no literals
  done : List Derived → ProofState
  fault : ProofFault → ProofState

abbrev pub with_step : List Derived → Result Derived ProofFault → ProofState
with_step steps (Ok s) = if is_empty s.clause then done (s ∷ steps) else on (s ∷ steps)
with_step steps (Err kind) = fault kind

abbrev pub taken : ℕ → List (List Literal) → List Derived → ProofLine → ProofState
taken variables cnf steps skipped = on steps
taken variables cnf steps (step number literals hints) = with_step steps (step_result variables cnf steps number literals hints)
taken variables cnf steps invalid = fault NotAStep

-- ---- the answer

pub data PlainAnswer : Type 0 where
  -- the core
  refuted : List ℕ → PlainAnswer
  -- a line from 1, and what is wrong there
  faulty : ℕ → ProofFault → PlainAnswer

abbrev pub answer_after : List (List Literal) → ℕ → ProofState → (List Derived → PlainAnswer) → PlainAnswer
answer_after cnf line (on steps) next = next steps
answer_after cnf line (done steps) next = refuted (core cnf steps)
answer_after cnf line (fault kind) next = faulty line kind

-- the answer after so many lines, by the steps in them and the lines that follow
abbrev pub checked_from : ℕ → List (List Literal) → List Derived → ℕ → List (List ℕ) → PlainAnswer
checked_from variables cnf steps before [] = faulty (max 1 before) EndsEarly
checked_from variables cnf steps before (line ∷ rest) =
    answer_after cnf (before + 1) (taken variables cnf steps (proof_line line)) (λ more. checked_from variables cnf more (before + 1) rest)

-- an empty clause of the CNF, by its position from 0, is a core, and the proof isn't read
abbrev pub unless_empty : Option ℕ → PlainAnswer → PlainAnswer
unless_empty None answer = answer
unless_empty (Some index) answer = refuted ((index + 1) ∷ [])

-- whether the text is a proof that the CNF is refuted
unfoldable pub checked : ℕ → List (List Literal) → List ℕ → PlainAnswer
checked variables cnf text = unless_empty (position is_empty cnf) (checked_from variables cnf [] 0 (lines text))

abbrev pub answer_view : Answer → PlainAnswer
answer_view (Refuted core) = refuted core.items
answer_view (Faulty line kind) = faulty line kind
