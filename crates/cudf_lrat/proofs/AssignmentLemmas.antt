-- Assignments, and what clauses are under them.
use Rattle.std.proofs.Common.{◌≡◌, ℕ, ◌<◌, false, eqb, List, length, get_or, Some, None, ap, ◌∙◌, inl, inr, arith, zero, suc, Bool, true, not, ◌&&◌, [], ◌∷◌, ◌+◌, if◌then◌else◌, drop, refl, sym}
use Rattle.std.specs.List.{list_all, prefix_len}
use Rattle.std.specs.Prelude.{All, filter}
use Rattle.std.proofs.lemmas.Bool.{cases_lt, cond-false, ne_eqb, cases_Bool, and_parts, and_left, and_right, not-true}
use Rattle.std.proofs.lemmas.List.{get_or_past}
use Rattle.cudf_lrat.specs.Steps.{no_values, PartialAssignment, conflict, is_false, is_same, status_of, status_by, not_unit, unit}
use Rattle.cudf_lrat.specs.Working.Assignments.{assigned_by, unassigned, value_of}
use Rattle.cudf_lrat.specs.declared.assignment.AssignedValue.{AssignedValue}
use Rattle.cudf_lrat.specs.declared.cnf.Literal.{Literal}

-- ---- a new assignment

fresh-at : (assignment : List AssignedValue) (step : ℕ) → All (λ m. m.step < step) assignment → 0 < step → (variable : ℕ) → value_of (get_or assignment variable unassigned) step ≡ None
fresh-at assignment step fresh some variable =
    elim (cases_lt variable (length assignment)) [
      | inl inside ↦ let older = fresh variable unassigned inside in cond-false (eqb (get_or assignment variable unassigned).step step) (Some (get_or assignment variable unassigned).value) None (ne_eqb (get_or assignment variable unassigned).step step (λ same. omega arith))
      | inr past ↦ ap (λ m. value_of m step) (get_or_past assignment variable unassigned past) ∙ cond-false (eqb 0 step) (Some false) None (ne_eqb 0 step (λ same. omega arith))
    ]

-- before the first mark of a step
pub known_fresh : (assignment : List AssignedValue) (step : ℕ) → All (λ m. m.step < step) assignment → 0 < step → assigned_by assignment step ≡ no_values
unfolding assigned_by
known_fresh assignment step fresh some = λ i variable. fresh-at assignment step fresh some variable i

-- ---- the status of a clause

-- an element that passes neither test
pub other_found : (p q : Literal → Bool) (xs : List Literal) (i : ℕ) (d : Literal) → i < length xs → (not (p (get_or xs i d)) && not (q (get_or xs i d))) ≡ true → list_all q (filter (λ l. not (p l)) xs) ≡ false
other_found p q [] i d inside both = absurd (omega arith)
other_found p q (x ∷ xs) zero d inside both =
    let parts = and_parts (not (p x)) (not (q x)) both in
    rw (not-true (p x) parts.0) (and_left (q x) (list_all q (filter (λ l. not (p l)) xs)) (not-true (q x) parts.1))
other_found p q (x ∷ xs) (suc i) d inside both =
    let rest : list_all q (filter (λ l. not (p l)) xs) ≡ false = other_found p q xs i d (omega arith) both in
    elim (cases_Bool (p x)) [
      | inl passes ↦ rw passes rest
      | inr fails ↦ rw fails (and_right (q x) (list_all q (filter (λ l. not (p l)) xs)) rest)
    ]

-- the literals that aren't false, from the first one on
left-first : (p : Literal → Bool) (clause : List Literal) (d : Literal) → prefix_len p clause < length clause
    → filter (λ l. not (p l)) clause ≡ get_or clause (prefix_len p clause) d ∷ filter (λ l. not (p l)) (drop (prefix_len p clause + 1) clause)
left-first p [] d inside = absurd (omega arith)
left-first p (l ∷ ls) d inside =
    elim (cases_Bool (p l)) [
      | inl holds ↦
          let rest : prefix_len p ls < length ls = let h : 1 + prefix_len p ls < length (l ∷ ls) = rw holds at inside in omega arith in
          let next : 1 + prefix_len p ls ≡ suc (prefix_len p ls) = omega arith in
          let more : suc (prefix_len p ls) + 1 ≡ suc (prefix_len p ls + 1) = omega arith in
          rw (holds, next, more) (left-first p ls d rest)
      | inr fails ↦ rw fails refl
    ]

left-none : (p : Literal → Bool) (clause : List Literal) → prefix_len p clause ≡ length clause → filter (λ l. not (p l)) clause ≡ []
left-none p [] all = refl
left-none p (l ∷ ls) all =
    elim (cases_Bool (p l)) [
      | inl holds ↦ rw holds (left-none p ls (let h : 1 + prefix_len p ls ≡ length (l ∷ ls) = rw holds at all in omega arith))
      | inr fails ↦ absurd (let h : 0 ≡ length (l ∷ ls) = rw fails at all in omega arith)
    ]

pub status_conflict : (known : PartialAssignment) (clause : List Literal) → prefix_len (is_false known) clause ≡ length clause → status_of known clause ≡ conflict
status_conflict known clause all = ap status_by (left-none (is_false known) clause all)

pub status-first : (known : PartialAssignment) (clause : List Literal) (n : ℕ) (d : Literal) → n ≡ prefix_len (is_false known) clause → n < length clause → (rest : List Literal) → rest ≡ drop (n + 1) clause → {b : Bool} → b ≡ list_all (is_same (get_or clause n d)) (filter (λ l. not (is_false known l)) rest)
    → (if b then unit (get_or clause n d) else not_unit) ≡ status_of known clause
status-first known clause n d is inside rest end {b} alone =
    let here : prefix_len (is_false known) clause < length clause = omega arith in
    let all : filter (λ l. not (is_false known l)) clause ≡ get_or clause n d ∷ filter (λ l. not (is_false known l)) (drop (n + 1) clause) = rw is (left-first (is_false known) clause d here) in
    let same : b ≡ list_all (is_same (get_or clause n d)) (filter (λ l. not (is_false known l)) (drop (n + 1) clause)) = alone ∙ ap (λ (ls : List Literal). list_all (is_same (get_or clause n d)) (filter (λ l. not (is_false known l)) ls)) end in
    ap (λ (b : Bool). if b then unit (get_or clause n d) else not_unit) same ∙ sym (ap status_by all)
