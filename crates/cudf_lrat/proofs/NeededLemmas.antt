-- Marks of what is needed, step by step back.
use Rattle.std.proofs.Common.{◌≡◌, ℕ, zero, suc, ◌+◌, ◌-◌, ◌<◌, ◌≤◌, Bool, true, false, if◌then◌else◌, ◌||◌, eqb, ltb, List, [], ◌∷◌, ◌++◌, length, get_or, map, replicate, set, take, refl, sym, ap, ◌∙◌, inl, inr, arith}
use Rattle.std.specs.Prelude.{All, filter, slice_index}
use Rattle.std.specs.List.{list_any, range_with_len}
use Rattle.std.proofs.lemmas.Bool.{cases_eq, cases_lt, cases_order, cond-true, cond-false, eq-eqb, ne_eqb, lt-ltb, le-ltb}
use Rattle.std.proofs.lemmas.List.{get_or-replicate, get_or-set_other, get_or-set_same, get_or-take, length-replicate}
use Rattle.std.proofs.lemmas.List.Elements.{All-head, All-tail, All-weaker}
use Rattle.std.proofs.lemmas.List.Folds.{list_any-append}
use Rattle.cudf_lrat.proofs.RangeLemmas.{filter-agree, range_within}
use Rattle.cudf_lrat.specs.Answers.{core, is_listed, needs}
use Rattle.cudf_lrat.specs.Lists.{lists_in}
use Rattle.cudf_lrat.specs.Literals.{PlainCnf}
use Rattle.cudf_lrat.specs.Steps.{greatest_number}
use Rattle.cudf_lrat.specs.Working.Indices.{IsAfter, IsAscending, number_at, steps_below, steps_in}
use Rattle.cudf_lrat.specs.Working.Needed.{AreNeeded}
use Rattle.cudf_lrat.specs.declared.steps.ProofSteps.{ProofSteps}

-- ---- numbers of indices

number-given : (given : ℕ) (numbers : List ℕ) (i : ℕ) → i < given → number_at given numbers i ≡ i + 1
number-given given numbers i inside = cond-true (ltb i given) _ _ (lt-ltb i given inside)

number-step : (given : ℕ) (numbers : List ℕ) (i k : ℕ) → i ≡ given + k → number_at given numbers i ≡ slice_index numbers k
number-step given numbers i k is =
    let back : i - given ≡ k = omega arith in
    cond-false (ltb i given) _ _ (le-ltb i given (omega arith)) ∙ ap (slice_index numbers) back

number-rising : (given : ℕ) (numbers : List ℕ) (i j : ℕ) → IsAscending given numbers → i < j → j < given + length numbers → number_at given numbers i < number_at given numbers j
number-rising given numbers i j up below inside =
    elim (cases_lt j given) [
      | inl lower ↦
          let a : number_at given numbers i ≡ i + 1 = number-given given numbers i (omega arith) in
          let b : number_at given numbers j ≡ j + 1 = number-given given numbers j lower in
          omega arith
      | inr upper ↦
          let b : number_at given numbers j ≡ slice_index numbers (j - given) = number-step given numbers j (j - given) (omega arith) in
          let above : given < slice_index numbers (j - given) = up.above (j - given) (omega arith) in
          elim (cases_lt i given) [
            | inl first ↦ let a : number_at given numbers i ≡ i + 1 = number-given given numbers i first in omega arith
            | inr second ↦
                let a : number_at given numbers i ≡ slice_index numbers (i - given) = number-step given numbers i (i - given) (omega arith) in
                let rises : slice_index numbers (i - given) < slice_index numbers (j - given) = up.rising (i - given) (j - given) (omega arith) (omega arith) in
                omega arith
          ]
    ]

-- two indices are the same where their numbers are
same-number : (given : ℕ) (numbers : List ℕ) (i j : ℕ) → IsAscending given numbers → i < given + length numbers → j < given + length numbers → eqb (number_at given numbers i) (number_at given numbers j) ≡ eqb i j
same-number given numbers i j up ii jj =
    elim (cases_order i j) [
      | inl same ↦ eq-eqb (number_at given numbers i) (number_at given numbers j) (ap (number_at given numbers) same) ∙ sym (eq-eqb i j same)
      | inr (inl less) ↦
          let r = number-rising given numbers i j up less jj in
          ne_eqb (number_at given numbers i) (number_at given numbers j) (λ e. omega arith) ∙ sym (ne_eqb i j (λ e. omega arith))
      | inr (inr more) ↦
          let r = number-rising given numbers j i up more ii in
          ne_eqb (number_at given numbers i) (number_at given numbers j) (λ e. omega arith) ∙ sym (ne_eqb i j (λ e. omega arith))
    ]

among-indices : (given : ℕ) (numbers : List ℕ) (j bound : ℕ) (us : List ℕ) → IsAscending given numbers → j < given + length numbers → bound ≤ given + length numbers → All (λ i. i < bound) us → is_listed (number_at given numbers j) (map (number_at given numbers) us) ≡ list_any (λ i. eqb i j) us
among-indices given numbers j bound [] up inside fits all = refl
among-indices given numbers j bound (u ∷ us) up inside fits all =
    let here : u < bound = All-head (λ i. i < bound) u us all in
    λ i. same-number given numbers u j up (omega arith) inside i || among-indices given numbers j bound us up inside fits (All-tail (λ i. i < bound) u us all) i

-- ---- one step back

abbrev after_step : Bool → List ℕ → List ℕ → List ℕ
after_step b used marked = if b then used ++ marked else marked

marked-step : (b : Bool) (given : ℕ) (numbers : List ℕ) (j bound : ℕ) (us marked : List ℕ) (old new : Bool) → IsAscending given numbers → j < given + length numbers → bound ≤ given + length numbers → All (λ i. i < bound) us
    → old ≡ is_listed (number_at given numbers j) marked → new ≡ (if b then list_any (λ i. eqb i j) us || old else old)
    → new ≡ is_listed (number_at given numbers j) (after_step b (map (number_at given numbers) us) marked)
marked-step true given numbers j bound us marked old new up inside fits all was is =
    is ∙ (λ i. sym (among-indices given numbers j bound us up inside fits all) i || was i)
    ∙ sym (list_any-append (λ n. eqb n (number_at given numbers j)) (map (number_at given numbers) us) marked)
marked-step false given numbers j bound us marked old new up inside fits all was is = is ∙ was

-- what is marked after a step, and what the earlier ones need of it
pub needed-back : (cnf : PlainCnf) (steps : ProofSteps) (old new : List Bool) (marked all : List ℕ) (left k : ℕ) → IsAfter cnf steps → left ≡ k + 1 → left ≤ length steps.numbers.items → AreNeeded cnf steps old marked
    → needs (steps_below (length cnf.clauses) steps.numbers.items (lists_in steps.clauses) (lists_in steps.used) left) marked ≡ all
    → ((j : ℕ) → get_or new j false ≡ (if get_or old (length cnf.clauses + k) false then list_any (λ i. eqb i j) (get_or (lists_in steps.used) k []) || get_or old j false else get_or old j false))
    → (more : List ℕ) × AreNeeded cnf steps new more × (needs (steps_below (length cnf.clauses) steps.numbers.items (lists_in steps.clauses) (lists_in steps.used) k) more ≡ all)
needed-back cnf steps old new marked all left k after is fits were need now =
    let given : ℕ = length cnf.clauses in
    let numbers : List ℕ = steps.numbers.items in
    let us : List ℕ = get_or (lists_in steps.used) k [] in
    let inside : k < length numbers = omega arith in
    let more : List ℕ = after_step (is_listed (slice_index numbers k) marked) (map (number_at given numbers) us) marked in
    let name : number_at given numbers (given + k) ≡ slice_index numbers k = number-step given numbers (given + k) k refl in
    let test : get_or old (given + k) false ≡ is_listed (slice_index numbers k) marked = were (given + k) (omega arith) ∙ ap (λ n. is_listed n marked) name in
    let next : left ≡ suc k = omega arith in (
      more,
      (λ j lt.
          let here : get_or new j false ≡ (if is_listed (slice_index numbers k) marked then list_any (λ i. eqb i j) us || get_or old j false else get_or old j false) =
          now j ∙ ap (λ b. if b then list_any (λ i. eqb i j) us || get_or old j false else get_or old j false) test in
          marked-step (is_listed (slice_index numbers k) marked) given numbers j (given + k) us marked (get_or old j false) (get_or new j false) after.ascending lt (omega arith) (after.earlier k inside) (were j lt) here),
      sym (ap (λ n. needs (steps_below given numbers (lists_in steps.clauses) (lists_in steps.used) n) marked) next) ∙ need,
    )

-- ---- the core

last-of : (cnf : PlainCnf) (steps : ProofSteps) (n : ℕ) → 0 < n → greatest_number cnf.clauses (steps_below (length cnf.clauses) steps.numbers.items (lists_in steps.clauses) (lists_in steps.used) n) ≡ slice_index steps.numbers.items (n - 1)
last-of cnf steps zero some = absurd (omega arith)
last-of cnf steps (suc k) some = let back : k ≡ suc k - 1 = omega arith in ap (slice_index steps.numbers.items) back

-- the last step is needed, and none else yet
pub needed-last : (cnf : PlainCnf) (steps : ProofSteps) (count last : ℕ) (needed : List Bool) → IsAfter cnf steps → 0 < length steps.numbers.items → count ≡ length cnf.clauses + length steps.numbers.items → last ≡ count - 1 → needed ≡ set (replicate count false) last true
    → AreNeeded cnf steps needed (greatest_number cnf.clauses (steps_in cnf steps) ∷ [])
needed-last cnf steps count last needed after some total is marked = λ k lt.
    let given : ℕ = length cnf.clauses in
    let numbers : List ℕ = steps.numbers.items in
    let name : greatest_number cnf.clauses (steps_in cnf steps) ≡ number_at given numbers last = last-of cnf steps (length numbers) some ∙ sym (number-step given numbers last (length numbers - 1) (omega arith)) in
    let test : is_listed (number_at given numbers k) (greatest_number cnf.clauses (steps_in cnf steps) ∷ []) ≡ (eqb last k || false) =
    ap (λ n. eqb n (number_at given numbers k) || false) name ∙ ap (λ b. b || false) (same-number given numbers last k after.ascending (omega arith) lt) in
    let size : length (replicate count false) ≡ count = length-replicate count false in
    let value : get_or (set (replicate count false) last true) k false ≡ (eqb last k || false) = elim (cases_eq k last) [
      | inl same ↦
          ap (λ j. get_or (set (replicate count false) last true) j false) same ∙ get_or-set_same (replicate count false) last true false (omega arith)
          ∙ sym (ap (λ b. b || false) (eq-eqb last k (sym same)))
      | inr other ↦
          get_or-set_other (replicate count false) last k true false other ∙ get_or-replicate count k false false (omega arith)
          ∙ sym (ap (λ b. b || false) (ne_eqb last k (λ e. other (sym e))))
    ] in
    ap (λ xs. get_or xs k false) marked ∙ value ∙ sym test

pub core-chosen : (cnf : PlainCnf) (steps : ProofSteps) (needed front : List Bool) (found : List ℕ) → AreNeeded cnf steps needed (needs (steps_in cnf steps) (greatest_number cnf.clauses (steps_in cnf steps) ∷ [])) → front ≡ take (length cnf.clauses) needed → length cnf.clauses ≤ length needed → length front ≡ length cnf.clauses
    → found ≡ filter (λ n. get_or front (n - 1) false) (range_with_len 1 (length front)) → found ≡ core cnf.clauses (steps_in cnf steps)
unfolding core
core-chosen cnf steps needed front found are is fits size chosen =
    let given : ℕ = length cnf.clauses in
    let numbers : List ℕ = steps.numbers.items in
    let all : List ℕ = needs (steps_in cnf steps) (greatest_number cnf.clauses (steps_in cnf steps) ∷ []) in
    let agree : (n : ℕ) → (1 ≤ n) × (n < 1 + given) → get_or front (n - 1) false ≡ is_listed n all = λ n range.
    let low : 1 ≤ n = range.0 in
    let high : n < 1 + given = range.1 in
    let inside : n - 1 < given = omega arith in
    let back : n - 1 + 1 ≡ n = omega arith in
    ap (λ xs. get_or xs (n - 1) false) is ∙ get_or-take given needed (n - 1) false inside ∙ are (n - 1) (omega arith)
    ∙ ap (λ m. is_listed m all) (number-given given numbers (n - 1) inside ∙ back) in
    chosen ∙ ap (λ m. filter (λ n. get_or front (n - 1) false) (range_with_len 1 m)) size
    ∙ filter-agree (λ n. get_or front (n - 1) false) (λ n. is_listed n all) (range_with_len 1 given)
    (All-weaker (λ n. (1 ≤ n) × (n < 1 + given)) (λ n. get_or front (n - 1) false ≡ is_listed n all) agree (range_with_len 1 given) (range_within 1 given))
