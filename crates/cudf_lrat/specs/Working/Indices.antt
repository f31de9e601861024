-- Clauses by indices: from 0 on those of the CNF, after them those of the steps, in order.
use Rattle.std.specs.Prelude.{◌≡◌, ℕ, zero, suc, false, ◌+◌, ◌-◌, ◌^◌, ◌<◌, ◌≤◌, nat_lt, List, [], ◌∷◌, ◌++◌, length, map, slice_index, slice_index_or, All, if◌then◌else◌}
use Rattle.cudf_lrat.specs.Lists.{lists_in}
use Rattle.cudf_lrat.specs.Literals.{PlainCnf}
use Rattle.cudf_lrat.specs.Steps.{Derived, is_unnamed, named_clause}
use Rattle.cudf_lrat.specs.declared.cnf.Literal.{Literal}
use Rattle.cudf_lrat.specs.declared.steps.ProofSteps.{ProofSteps}

-- the number of an index, where the CNF has so many clauses and the steps these numbers
abbrev pub number_at : ℕ → List ℕ → ℕ → ℕ
number_at given numbers index = if nat_lt index given then index + 1 else slice_index numbers (index - given)

abbrev pub step_at : ℕ → List ℕ → List (List Literal) → List (List ℕ) → ℕ → Derived
step_at given numbers clauses used k =
    record { number = slice_index numbers k; clause = slice_index_or clauses k []; used = map (number_at given numbers) (slice_index_or used k []) }

-- the first steps, the last one first
abbrev pub steps_below : ℕ → List ℕ → List (List Literal) → List (List ℕ) → ℕ → List Derived
steps_below given numbers clauses used zero = []
steps_below given numbers clauses used (suc k) = step_at given numbers clauses used k ∷ steps_below given numbers clauses used k

-- the numbers are above those of the CNF, and each is above those before it
pub record IsAscending (given : ℕ) (numbers : List ℕ) : Type 0 where
  pub above : (k : ℕ) → k < length numbers → given < slice_index numbers k
  pub rising : (j k : ℕ) → j < k → k < length numbers → slice_index numbers j < slice_index numbers k

-- the steps are after the CNF's clauses, and each used clauses before it
pub record IsDerivation (cnf : PlainCnf) (numbers : List ℕ) (clauses : List (List Literal)) (used : List (List ℕ)) : Type 0 where
  pub count : length clauses ≡ length numbers
  pub used_count : length used ≡ length numbers
  pub few : length cnf.clauses + length numbers < 2 ^ 32
  pub ascending : IsAscending (length cnf.clauses) numbers
  pub earlier : (k : ℕ) → k < length numbers → All (λ index. index < length cnf.clauses + k) (slice_index_or used k [])
  pub within : All (λ clause. All (λ l. l.variable ≤ cnf.variables) clause) clauses

abbrev pub IsAfter : PlainCnf → ProofSteps → Type 0
IsAfter cnf steps = IsDerivation cnf steps.numbers.items (lists_in steps.clauses) (lists_in steps.used)

-- the steps, the last one first
abbrev pub steps_in : PlainCnf → ProofSteps → List Derived
steps_in cnf steps = steps_below (length cnf.clauses) steps.numbers.items (lists_in steps.clauses) (lists_in steps.used) (length steps.numbers.items)

-- the clause of an index
abbrev pub indexed : PlainCnf → ProofSteps → ℕ → List Literal
indexed cnf steps index = slice_index_or (cnf.clauses ++ lists_in steps.clauses) index []

-- the index is that of the clause with the number
pub record IsIndexOf (cnf : PlainCnf) (steps : ProofSteps) (number index : ℕ) : Type 0 where
  pub inside : index < length cnf.clauses + length steps.numbers.items
  pub number_is : number_at (length cnf.clauses) steps.numbers.items index ≡ number
  pub named : is_unnamed cnf.clauses (steps_in cnf steps) number ≡ false
  pub clause_is : indexed cnf steps index ≡ named_clause cnf.clauses (steps_in cnf steps) number

-- the indices are those of the clauses with the numbers
pub record AreIndicesOf (cnf : PlainCnf) (steps : ProofSteps) (numbers indices : List ℕ) : Type 0 where
  pub inside : All (λ index. index < length cnf.clauses + length steps.numbers.items) indices
  pub numbers_are : map (number_at (length cnf.clauses) steps.numbers.items) indices ≡ numbers
  pub clauses_are : All (λ index. named_clause cnf.clauses (steps_in cnf steps) (number_at (length cnf.clauses) steps.numbers.items index) ≡ indexed cnf steps index) indices
