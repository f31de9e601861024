-- The needed clauses of a proof come by key.
use Rattle.std.proofs.Common.{◌≡◌, ◌⊎◌, inl, inr, ◌+◌, ◌-◌, ℕ, Bool, List, [], ◌∷◌, map, filter, filter_map, position, slice_get, Option, Some, None, IsTrue, refl, ap, sym, subst}
use Rattle.std.proofs.lemmas.List.{length-map}
use Rattle.std.specs.List.{range_with_len}
use Rattle.cudf_text.specs.Lines.{lines}
use Rattle.cudf_job.specs.Keys.{never_descend}
use Rattle.cudf_problem.specs.Universe.{PlainProblem}
use Rattle.cudf_lrat.specs.Answers.{PlainAnswer, ProofState, answer_after, checked, checked_from, core, done, fault, faulty, is_listed, needs, on, refuted, taken, unless_empty}
use Rattle.cudf_lrat.specs.Lines.{is_empty, proof_line}
use Rattle.cudf_lrat.specs.Steps.{Derived, greatest_number}
use Rattle.cudf_lrat.specs.declared.cnf.Literal.{Literal}
use Rattle.cudf_cnf.specs.Cnf.{Keyed, clauses_of, cnf}
use Rattle.cudf_cnf.specs.Laws.{KeysNeverDescend}
use Rattle.cudf_cnf.proofs.OrderLemmas.{some_never_descend}
use Rattle.cudf_reasons.specs.Laws.{keys_of}
use Rattle.cudf_check.specs.Report.{needed}

-- ---- the numbers of a core

abbrev numbers_in : PlainAnswer → List ℕ
numbers_in (refuted numbers) = numbers
numbers_in (faulty line kind) = []

-- one number, or what steps need
abbrev IsCoreOf : List (List Literal) → List ℕ → Type 0
IsCoreOf clauses numbers = ((n : ℕ) × (numbers ≡ n ∷ [])) ⊎ ((steps : List Derived) × (numbers ≡ core clauses steps))

after_line : (clauses : List (List Literal)) (numbers : List ℕ) (line : ℕ) (next : List Derived → PlainAnswer)
    → ((steps : List Derived) → next steps ≡ refuted numbers → IsCoreOf clauses numbers) → (t : ProofState) → answer_after clauses line t next ≡ refuted numbers → IsCoreOf clauses numbers
after_line clauses numbers line next rest (on steps) is = rest steps is
after_line clauses numbers line next rest (done steps) is = inr (steps, sym (ap numbers_in is))
after_line clauses numbers line next rest (fault kind) is = absurd (cc is)

after_lines : (places : ℕ) (clauses : List (List Literal)) (numbers : List ℕ) (steps : List Derived) (before : ℕ) (rest : List (List ℕ))
    → checked_from places clauses steps before rest ≡ refuted numbers → IsCoreOf clauses numbers
after_lines places clauses numbers steps before [] is = absurd (cc is)
after_lines places clauses numbers steps before (line ∷ rest) is =
    after_line clauses numbers (before + 1) (λ more. checked_from places clauses more (before + 1) rest)
    (λ more h. after_lines places clauses numbers more (before + 1) rest h) (taken places clauses steps (proof_line line)) is

core_of : (places : ℕ) (clauses : List (List Literal)) (text numbers : List ℕ) → checked places clauses text ≡ refuted numbers → IsCoreOf clauses numbers
unfolding checked
core_of places clauses text numbers is = by (position is_empty clauses) is
  where
    by : (found : Option ℕ) → unless_empty found (checked_from places clauses [] 0 (lines text)) ≡ refuted numbers → IsCoreOf clauses numbers
    by None h = after_lines places clauses numbers [] 0 (lines text) h
    by (Some index) h = inl (index + 1, sym (ap numbers_in h))

-- ---- their keys

alone : (clauses : List Keyed) (n : ℕ) → IsTrue (never_descend (keys_of (needed clauses (n ∷ []))))
alone clauses n = by (slice_get clauses (n - 1))
  where
    by : (found : Option Keyed) → IsTrue (never_descend (keys_of (filter_map (λ (o : Option Keyed). o) (found ∷ []))))
    by None = refl
    by (Some c) = refl

several : (clauses : List Keyed) (steps : List Derived) → IsTrue (never_descend (map (λ c. c.0) clauses))
    → IsTrue (never_descend (keys_of (needed clauses (core (clauses_of clauses) steps))))
unfolding core
several clauses steps h =
    let wanted : ℕ → Bool = λ n. is_listed n (needs steps (greatest_number (clauses_of clauses) steps ∷ [])) in
    subst (λ count. IsTrue (never_descend (keys_of (needed clauses (filter wanted (range_with_len 1 count)))))) (sym (length-map clauses (λ c. c.1)))
    (some_never_descend clauses wanted h)

-- the clauses of a core come by key, as all do
pub core_by_key : (problem : PlainProblem) (places : ℕ) (clauses : List Keyed) (text numbers : List ℕ) → KeysNeverDescend → clauses ≡ cnf problem
    → checked places (clauses_of clauses) text ≡ refuted numbers → IsTrue (never_descend (keys_of (needed clauses numbers)))
core_by_key problem places clauses text numbers law same is = by (core_of places (clauses_of clauses) text numbers is)
  where
    by : IsCoreOf (clauses_of clauses) numbers → IsTrue (never_descend (keys_of (needed clauses numbers)))
    by (inl one) = subst (λ ns. IsTrue (never_descend (keys_of (needed clauses ns)))) (sym one.1) (alone clauses one.0)
    by (inr some) =
        subst (λ ns. IsTrue (never_descend (keys_of (needed clauses ns)))) (sym some.1)
        (several clauses some.0 (subst (λ cs. IsTrue (never_descend (map (λ c. c.0) cs))) (sym same) (law problem)))
