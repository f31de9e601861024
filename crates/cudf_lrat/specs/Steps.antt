-- What a step of a proof shows: reverse unit propagation by hints.
use Rattle.std.specs.Prelude.{ℕ, Bool, false, not, ◌&&◌, ◌==◌, nat_lt, nat_le, List, [], ◌∷◌, length, map, filter, fold, Option, Some, None, is_none, unwrap_or, Result, Ok, Err, if◌then◌else◌}
use Rattle.std.specs.List.{list_all, list_any}
use Rattle.cudf_lrat.specs.Literals.{clause_at}
use Rattle.cudf_lrat.specs.declared.checker.ProofFault.{ProofFault}
use Rattle.cudf_lrat.specs.declared.checker.ProofFault.TheVariants.{NumberNotNew, NoSuchVariable, RatStep, NoSuchClause, HintNotUnit, NoConflict}
use Rattle.cudf_lrat.specs.declared.cnf.Literal.{Literal}
use Rattle.cudf_lrat.specs.declared.reader.SignedNumber.{SignedNumber}

-- ---- partial assignments

-- whether each variable is true, where that is known
abbrev pub PartialAssignment : Type 0
PartialAssignment = ℕ → Option Bool

abbrev pub no_values : PartialAssignment
no_values variable = None

-- with a literal that is true, whatever its variable was
abbrev pub assign : PartialAssignment → Literal → PartialAssignment
assign known literal = λ variable. if variable == literal.variable then Some literal.positive else known variable

abbrev pub negated : Literal → Literal
negated literal = record { variable = literal.variable; positive = not literal.positive }

-- each literal of the clause is false; of a literal and its opposite the last counts
abbrev pub denied : List Literal → PartialAssignment
denied clause = fold (λ known literal. assign known (negated literal)) no_values clause

abbrev pub is_false_at : Bool → Option Bool → Bool
is_false_at positive None = false
is_false_at positive (Some value) = if positive then not value else value

-- whether the literal is false
abbrev pub is_false : PartialAssignment → Literal → Bool
is_false known literal = is_false_at literal.positive (known literal.variable)

-- ---- hints

abbrev pub is_same : Literal → Literal → Bool
is_same a b = a.variable == b.variable && (if a.positive then b.positive else not b.positive)

-- what a clause is under a partial assignment
pub data ClauseStatus : Type 0 where
  -- all of its literals are false
  conflict : ClauseStatus
  -- all others are
  unit : Literal → ClauseStatus
  -- two different ones or more aren't
  not_unit : ClauseStatus

-- by the literals that aren't false; a clause is a set, so one may occur more than once
abbrev pub status_by : List Literal → ClauseStatus
status_by [] = conflict
status_by (literal ∷ others) = if list_all (is_same literal) others then unit literal else not_unit

abbrev pub status_of : PartialAssignment → List Literal → ClauseStatus
status_of known clause = status_by (filter (λ literal. not (is_false known literal)) clause)

-- a unit is true
abbrev pub assign_unit : PartialAssignment → ClauseStatus → PartialAssignment
assign_unit known (unit literal) = assign known literal
assign_unit known _ = known

abbrev pub result_map : {X Y : Type 0} → (X → Y) → Result X ProofFault → Result Y ProofFault
result_map f (Ok x) = Ok (f x)
result_map f (Err kind) = Err kind

-- the hints that are used, by the first one's clause and by what is used of the later ones
abbrev pub used_by : ℕ → ClauseStatus → Result (List ℕ) ProofFault → Result (List ℕ) ProofFault
used_by hint conflict later = Ok (hint ∷ [])
used_by hint (unit literal) later = result_map (λ used. hint ∷ used) later
used_by hint not_unit later = Err HintNotUnit

-- unit propagation by hints, in their order: those up to the first conflict are used
abbrev pub propagate : (ℕ → List Literal) → PartialAssignment → List ℕ → Result (List ℕ) ProofFault
propagate clause known [] = Err NoConflict
propagate clause known (hint ∷ hints) = used_by hint (status_of known (clause hint)) (propagate clause (assign_unit known (status_of known (clause hint))) hints)

-- ---- steps

-- a step that was taken: its number, its clause, and the hints that were used
pub record Derived : Type 0 where
  pub number : ℕ
  pub clause : List Literal
  pub used : List ℕ

abbrev pub derived : ℕ → List Literal → List ℕ → Derived
derived number clause used = record { number = number; clause = clause; used = used }

-- the clause of the step with this number, the last step first
abbrev pub step_numbered : List Derived → ℕ → Option (List Literal)
step_numbered [] number = None
step_numbered (s ∷ earlier) number = if s.number == number then Some s.clause else step_numbered earlier number

-- the clause with this number, of the CNF's or of a step's
abbrev pub clause_numbered : List (List Literal) → List Derived → ℕ → Option (List Literal)
clause_numbered cnf steps number = if nat_lt 0 number && nat_le number (length cnf) then Some (clause_at cnf number) else step_numbered steps number

abbrev pub is_unnamed : List (List Literal) → List Derived → ℕ → Bool
is_unnamed cnf steps number = is_none (clause_numbered cnf steps number)

abbrev pub named_clause : List (List Literal) → List Derived → ℕ → List Literal
named_clause cnf steps number = unwrap_or (clause_numbered cnf steps number) []

-- the greatest number so far
abbrev pub greatest_number : List (List Literal) → List Derived → ℕ
greatest_number cnf [] = length cnf
greatest_number cnf (s ∷ earlier) = s.number

abbrev pub literal_of : SignedNumber → Literal
literal_of n = record { variable = n.value; positive = not n.negative }

abbrev pub is_beyond : ℕ → SignedNumber → Bool
is_beyond variables n = nat_lt variables n.value

abbrev pub values : List SignedNumber → List ℕ
values numbers = map (λ n. n.value) numbers

-- a step after others, the last of these first: the first of these faults, or what was derived
unfoldable pub step_result : ℕ → List (List Literal) → List Derived → ℕ → List SignedNumber → List SignedNumber → Result Derived ProofFault
step_result variables cnf steps number literals hints =
    if nat_le number (greatest_number cnf steps) then Err NumberNotNew
    else (if list_any (is_beyond variables) literals then Err NoSuchVariable
    else (if list_any (λ n. n.negative) hints then Err RatStep
    else (if list_any (is_unnamed cnf steps) (values hints) then Err NoSuchClause
    else result_map (derived number (map literal_of literals)) (propagate (named_clause cnf steps) (denied (map literal_of literals)) (values hints)))))
