-- Literals, clauses, and what it means that clauses are refuted.
use Rattle.std.specs.Prelude.{ℕ, ◌-◌, ◌<◌, ◌≤◌, Bool, not, if◌then◌else◌, List, [], map, length, slice_index_or, All, IsTrue}
use Rattle.std.specs.List.{list_any}
use Rattle.cudf_lrat.specs.declared.cnf.Literal.{Literal}

-- the number of variables, and clauses over the variables from 1 on
pub record PlainCnf : Type 0 where
  pub variables : ℕ
  pub clauses : List (List Literal)

-- the variable is one of these
abbrev pub IsWithin : ℕ → Literal → Type 0
IsWithin variables literal = (0 < literal.variable) × (literal.variable ≤ variables)

-- ---- assignments

-- which variables are true
abbrev pub Assignment : Type 0
Assignment = ℕ → Bool

-- whether the literal's variable is as the literal wants it
abbrev pub is_true_in : Assignment → Literal → Bool
is_true_in true_at literal = if literal.positive then true_at literal.variable else not (true_at literal.variable)

-- one of the literals is true
abbrev pub is_satisfied_by : Assignment → List Literal → Bool
is_satisfied_by true_at clause = list_any (is_true_in true_at) clause

abbrev pub SatisfiesAll : Assignment → List (List Literal) → Type 0
SatisfiesAll true_at clauses = All (λ clause. IsTrue (is_satisfied_by true_at clause)) clauses

-- no assignment satisfies all of the clauses
abbrev pub IsRefuted : List (List Literal) → Type 0
IsRefuted clauses = (true_at : Assignment) → ¬ (SatisfiesAll true_at clauses)

-- ---- clauses by their numbers

-- the clause of this number from 1
abbrev pub clause_at : List (List Literal) → ℕ → List Literal
clause_at clauses number = slice_index_or clauses (number - 1) []

abbrev pub clauses_at : List (List Literal) → List ℕ → List (List Literal)
clauses_at clauses numbers = map (clause_at clauses) numbers

-- the numbers are those of clauses that are refuted without the others
abbrev pub IsCore : List (List Literal) → List ℕ → Type 0
IsCore clauses numbers = All (λ number. (0 < number) × (number ≤ length clauses)) numbers × IsRefuted (clauses_at clauses numbers)
