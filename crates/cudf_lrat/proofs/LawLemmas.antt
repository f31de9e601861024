-- Why the clauses of a core are refuted.
use Rattle.std.proofs.Common.{◌≡◌, ℕ, ◌+◌, ◌-◌, ◌<◌, ◌≤◌, Bool, true, false, not, if◌then◌else◌, ◌&&◌, ◌||◌, eqb, ltb, leb, List, [], ◌∷◌, ◌++◌, length, get_or, map, Option, Some, None, Ok, Err, Result, refl, sym, ap, ◌∙◌, subst, inl, inr, arith}
use Rattle.std.specs.Prelude.{All, filter, fold, is_none, position, unwrap_or}
use Rattle.std.specs.List.{list_all, list_any, position_or_len, range_with_len}
use Rattle.std.proofs.lemmas.Bool.{cases_Bool, cases_eq, eq-eqb, ne_eqb, eqb-true, ltb-true, cond-true, cond-false, or_cases, or_parts, or_left, or_right, and_parts, true_from_ne_false}
use Rattle.std.proofs.lemmas.List.{nil_from_length}
use Rattle.std.proofs.lemmas.List.Elements.{All-cons, All-nil, All-head, All-tail, All-filter}
use Rattle.std.proofs.lemmas.List.Sums.{passes_at_first}
use Rattle.std.proofs.lemmas.List.Folds.{list_any-append, list_any_at}
use Rattle.cudf_lrat.proofs.RangeLemmas.{in_range, range_within}
use Rattle.cudf_text.specs.Lines.{lines}
use Rattle.cudf_lrat.specs.Answers.{PlainAnswer, ProofState, answer_after, checked, checked_from, core, done, fault, is_listed, needs, on, refuted, taken, unless_empty, with_step}
use Rattle.cudf_lrat.specs.Lines.{ProofLine, invalid, is_empty, proof_line, skipped, step}
use Rattle.cudf_lrat.specs.Literals.{Assignment, IsCore, clause_at, is_satisfied_by, is_true_in}
use Rattle.cudf_lrat.specs.Steps.{Derived, PartialAssignment, ClauseStatus, assign, assign_unit, clause_numbered, conflict, denied, derived, greatest_number, is_beyond, is_false, is_false_at, is_same, is_unnamed, literal_of, named_clause, negated, no_values, not_unit, propagate, result_map, status_of, status_by, step_numbered, step_result, unit, used_by, values}
use Rattle.cudf_lrat.specs.declared.checker.ProofFault.{ProofFault}
use Rattle.cudf_lrat.specs.declared.cnf.Literal.{Literal}
use Rattle.cudf_lrat.specs.declared.reader.SignedNumber.{SignedNumber}

abbrev Sat : Assignment → List Literal → Type 0
Sat t clause = is_satisfied_by t clause ≡ true

-- ---- partial assignments

abbrev Agrees : Assignment → PartialAssignment → Type 0
Agrees t known = (p : ℕ) (v : Bool) → known p ≡ Some v → t p ≡ v

as_wanted : (v p : Bool) → (if p then v else not v) ≡ true → v ≡ p
as_wanted true true h = refl
as_wanted true false h = cc
as_wanted false true h = cc
as_wanted false false h = refl

agrees_assign : (t : Assignment) (known : PartialAssignment) (l : Literal) → Agrees t known → is_true_in t l ≡ true → Agrees t (assign known l)
agrees_assign t known l before true_l = λ p v h.
    elim (cases_eq p l.variable) [
      | inl same ↦
          let is : Some l.positive ≡ Some v = sym (cond-true (eqb p l.variable) (Some l.positive) (known p) (eq-eqb p l.variable same)) ∙ h in
          let value : l.positive ≡ v = cc in
          ap t same ∙ as_wanted (t l.variable) l.positive true_l ∙ value
      | inr other ↦ before p v (sym (cond-false (eqb p l.variable) (Some l.positive) (known p) (ne_eqb p l.variable other)) ∙ h)
    ]

turned : (v p : Bool) → (if p then v else not v) ≡ false → (if not p then v else not v) ≡ true
turned true true h = cc
turned true false h = refl
turned false true h = refl
turned false false h = cc

agrees_denied : (t : Assignment) (known : PartialAssignment) (clause : List Literal) → Agrees t known → is_satisfied_by t clause ≡ false → Agrees t (fold (λ known literal. assign known (negated literal)) known clause)
agrees_denied t known [] before fails = before
agrees_denied t known (l ∷ ls) before fails =
    let parts = or_parts (is_true_in t l) (is_satisfied_by t ls) fails in
    agrees_denied t (assign known (negated l)) ls (agrees_assign t known (negated l) before (turned (t l.variable) l.positive parts.0)) parts.1

value_false : (p v : Bool) → (if p then not v else v) ≡ true → (if p then v else not v) ≡ false
value_false true true h = cc
value_false true false h = refl
value_false false true h = refl
value_false false false h = cc

false_by : (b p : Bool) (o : Option Bool) → ((v : Bool) → o ≡ Some v → b ≡ v) → is_false_at p o ≡ true → (if p then b else not b) ≡ false
false_by b p None agrees h = cc
false_by b p (Some v) agrees h = rw (agrees v refl) (value_false p v h)

false_in : (t : Assignment) (known : PartialAssignment) (l : Literal) → Agrees t known → is_false known l ≡ true → is_true_in t l ≡ false
false_in t known l agrees h = false_by (t l.variable) l.positive (known l.variable) (agrees l.variable) h

-- ---- what a clause is

right_of : (a b : Bool) → a ≡ false → (a || b) ≡ true → b ≡ true
right_of true b fails h = cc
right_of false b fails h = h

-- one of the literals that aren't false is true
left_holds : (t : Assignment) (known : PartialAssignment) (clause : List Literal) → Agrees t known → Sat t clause → Sat t (filter (λ l. not (is_false known l)) clause)
left_holds t known [] agrees h = h
left_holds t known (l ∷ ls) agrees h =
    elim (cases_Bool (is_false known l)) [
      | inl fails ↦ rw fails (left_holds t known ls agrees (right_of (is_true_in t l) (is_satisfied_by t ls) (false_in t known l agrees fails) h))
      | inr may ↦
          rw may (elim (or_cases (is_true_in t l) (is_satisfied_by t ls) h) [
            | inl here ↦ or_left (is_true_in t l) (is_satisfied_by t (filter (λ l. not (is_false known l)) ls)) here
            | inr later ↦ or_right (is_true_in t l) (is_satisfied_by t (filter (λ l. not (is_false known l)) ls)) (left_holds t known ls agrees later)
          ])
    ]

alike : (v p q : Bool) → (if p then q else not q) ≡ true → (if q then v else not v) ≡ true → (if p then v else not v) ≡ true
alike v true true same h = h
alike v true false same h = cc
alike v false true same h = cc
alike v false false same h = h

same_true : (t : Assignment) (a b : Literal) → is_same a b ≡ true → is_true_in t b ≡ true → is_true_in t a ≡ true
same_true t a b same h =
    let parts = and_parts (eqb a.variable b.variable) (if a.positive then b.positive else not b.positive) same in
    let variable : a.variable ≡ b.variable = eqb-true a.variable b.variable parts.0 in
    rw variable (alike (t b.variable) a.positive b.positive parts.1 h)

all_same_true : (t : Assignment) (l : Literal) (ls : List Literal) → list_all (is_same l) ls ≡ true → Sat t ls → is_true_in t l ≡ true
all_same_true t l [] same h = cc
all_same_true t l (k ∷ ks) same h =
    let parts = and_parts (is_same l k) (list_all (is_same l) ks) same in
    elim (or_cases (is_true_in t k) (is_satisfied_by t ks) h) [
      | inl here ↦ same_true t l k parts.0 here
      | inr later ↦ all_same_true t l ks parts.1 later
    ]

unit_true : (t : Assignment) (left : List Literal) (l : Literal) → status_by left ≡ unit l → Sat t left → is_true_in t l ≡ true
unit_true t [] l is h = cc
unit_true t (k ∷ ks) l is h =
    elim (cases_Bool (list_all (is_same k) ks)) [
      | inl same ↦
          let found : unit k ≡ unit l = rw same at is in
          let literal : k ≡ l = cc in
          subst (λ (x : Literal). is_true_in t x ≡ true) literal (elim (or_cases (is_true_in t k) (is_satisfied_by t ks) h) [
            | inl here ↦ here
            | inr later ↦ all_same_true t k ks same later
          ])
      | inr others ↦ let found : not_unit ≡ unit l = rw others at is in cc
    ]

none_left : (t : Assignment) (left : List Literal) → status_by left ≡ conflict → Sat t left → ⊥
none_left t [] is h = cc
none_left t (k ∷ ks) is h =
    elim (cases_Bool (list_all (is_same k) ks)) [
      | inl same ↦ let found : unit k ≡ conflict = rw same at is in cc
      | inr others ↦ let found : not_unit ≡ conflict = rw others at is in cc
    ]

-- ---- propagation

mapped_ok : {X Y : Type 0} (f : X → Y) (r : Result X ProofFault) (y : Y) → result_map f r ≡ Ok y → (x : X) × (r ≡ Ok x) × (f x ≡ y)
mapped_ok f (Ok x) y is = (x, refl, cc)
mapped_ok f (Err kind) y is = cc

-- what holds of all hints holds of the used ones
used_all : (P : ℕ → Type 0) (clause : ℕ → List Literal) (known : PartialAssignment) (hints used : List ℕ) → All P hints → propagate clause known hints ≡ Ok used → All P used
used_all P clause known [] used all is = cc
used_all P clause known (hint ∷ hints) used all is = by (status_of known (clause hint)) (λ k us e. used_all P clause k hints us (All-tail P hint hints all) e) is
  where
    by : (s : ClauseStatus) → ((k : PartialAssignment) (us : List ℕ) → propagate clause k hints ≡ Ok us → All P us) → used_by hint s (propagate clause (assign_unit known s) hints) ≡ Ok used → All P used
    by conflict rest e = let here : hint ∷ [] ≡ used = cc in subst (All P) here (All-cons P hint [] (All-head P hint hints all) (All-nil P))
    by (unit l) rest e =
        let later = mapped_ok (λ us. hint ∷ us) (propagate clause (assign known l) hints) used e in
        subst (All P) later.2 (All-cons P hint later.0 (All-head P hint hints all) (rest (assign known l) later.0 later.1))
    by not_unit rest e = cc

-- the clauses of the used hints aren't all satisfied
propagate_sound : (t : Assignment) (clause : ℕ → List Literal) (known : PartialAssignment) (hints used : List ℕ) → Agrees t known → propagate clause known hints ≡ Ok used → All (λ h. Sat t (clause h)) used → ⊥
propagate_sound t clause known [] used agrees is all = cc
propagate_sound t clause known (hint ∷ hints) used agrees is all = by (status_of known (clause hint)) (λ k us before e each. propagate_sound t clause k hints us before e each) refl is
  where
    left : List Literal
    left = filter (λ l. not (is_false known l)) (clause hint)

    by : (s : ClauseStatus) → ((k : PartialAssignment) (us : List ℕ) → Agrees t k → propagate clause k hints ≡ Ok us → All (λ h. Sat t (clause h)) us → ⊥) → status_of known (clause hint) ≡ s → used_by hint s (propagate clause (assign_unit known s) hints) ≡ Ok used → ⊥
    by conflict rest found e =
        let here : used ≡ hint ∷ [] = cc in
        none_left t left found (left_holds t known (clause hint) agrees (All-head (λ h. Sat t (clause h)) hint [] (subst (All (λ h. Sat t (clause h))) here all)))
    by (unit l) rest found e =
        let later = mapped_ok (λ us. hint ∷ us) (propagate clause (assign known l) hints) used e in
        let each : All (λ h. Sat t (clause h)) (hint ∷ later.0) = subst (All (λ h. Sat t (clause h))) (sym later.2) all in
        let now = left_holds t known (clause hint) agrees (All-head (λ h. Sat t (clause h)) hint later.0 each) in
        rest (assign known l) later.0 (agrees_assign t known l agrees (unit_true t left l found now)) later.1 (All-tail (λ h. Sat t (clause h)) hint later.0 each)
    by not_unit rest found e = cc

derived_holds : (t : Assignment) (clause : ℕ → List Literal) (literals : List Literal) (hints used : List ℕ) → propagate clause (denied literals) hints ≡ Ok used → All (λ h. Sat t (clause h)) used → Sat t literals
derived_holds t clause literals hints used is all =
    true_from_ne_false (is_satisfied_by t literals) (λ fails. propagate_sound t clause (denied literals) hints used (agrees_denied t no_values literals (λ p v h. cc) fails) is all)

-- ---- steps

among-append_left : (n : ℕ) (xs ys : List ℕ) → is_listed n xs ≡ true → is_listed n (xs ++ ys) ≡ true
among-append_left n xs ys h = list_any-append (λ x. eqb x n) xs ys ∙ or_left (is_listed n xs) (is_listed n ys) h

among-append_right : (n : ℕ) (xs ys : List ℕ) → is_listed n ys ≡ true → is_listed n (xs ++ ys) ≡ true
among-append_right n xs ys h = list_any-append (λ x. eqb x n) xs ys ∙ or_right (is_listed n xs) (is_listed n ys) h

none_among : (p : ℕ → Bool) (xs : List ℕ) (n : ℕ) → list_any p xs ≡ false → is_listed n xs ≡ true → p n ≡ false
none_among p [] n fails among = cc
none_among p (x ∷ xs) n fails among =
    let parts = or_parts (p x) (list_any p xs) fails in
    elim (or_cases (eqb x n) (is_listed n xs) among) [
      | inl here ↦ subst (λ k. p k ≡ false) (eqb-true x n here) parts.0
      | inr later ↦ none_among p xs n parts.1 later
    ]

-- what satisfies the clauses that the step used satisfies its clause
abbrev Follows : List (List Literal) → List Derived → Derived → Type 0
Follows cnf earlier s = (t : Assignment) → ((h : ℕ) → is_listed h s.used ≡ true → (clause : List Literal) → clause_numbered cnf earlier h ≡ Some clause → Sat t clause) → Sat t s.clause

abbrev IsSound : List (List Literal) → List Derived → Type 0
IsSound cnf [] = Unit {0}
IsSound cnf (s ∷ earlier) = Follows cnf earlier s × IsSound cnf earlier

ok_else : {X : Type 0} (b : Bool) (kind : ProofFault) (r : Result X ProofFault) (s : X) → (if b then Err kind else r) ≡ Ok s → (b ≡ false) × (r ≡ Ok s)
ok_else true kind r s h = cc
ok_else false kind r s h = (refl, h)

some_from : (o : Option (List Literal)) → is_none o ≡ false → o ≡ Some (unwrap_or o [])
some_from None h = cc
some_from (Some clause) h = refl

all_listed : (xs : List ℕ) → All (λ x. is_listed x xs ≡ true) xs
all_listed xs = λ k d lt. list_any_at (λ x. eqb x (get_or xs k d)) xs k d lt (eq-eqb _ _ refl)

step_sound : (variables : ℕ) (cnf : List (List Literal)) (steps : List Derived) (number : ℕ) (literals hints : List SignedNumber) (s : Derived) → step_result variables cnf steps number literals hints ≡ Ok s → Follows cnf steps s
unfolding step_result
step_sound variables cnf steps number literals hints s is = λ t satisfied.
    let new = ok_else (leb number (greatest_number cnf steps)) _ _ s is in
    let within = ok_else (list_any (is_beyond variables) literals) _ _ s new.1 in
    let plain = ok_else (list_any (λ n. n.negative) hints) _ _ s within.1 in
    let named = ok_else (list_any (is_unnamed cnf steps) (values hints)) _ _ s plain.1 in
    let clause : List Literal = map literal_of literals in
    let made = mapped_ok (derived number clause) (propagate (named_clause cnf steps) (denied clause) (values hints)) s named.1 in
    let among : All (λ h. is_listed h (values hints) ≡ true) made.0 = used_all (λ h. is_listed h (values hints) ≡ true) (named_clause cnf steps) (denied clause) (values hints) made.0 (all_listed (values hints)) made.1 in
    let used : made.0 ≡ s.used = ap (λ (d : Derived). d.used) made.2 in
    let all : All (λ h. Sat t (named_clause cnf steps h)) made.0 = λ k d lt.
    let h : ℕ = get_or made.0 k d in
    let some : is_unnamed cnf steps h ≡ false = none_among (is_unnamed cnf steps) (values hints) h named.0 (among k d lt) in
    satisfied h (sym (ap (is_listed h) used) ∙ all_listed made.0 k d lt) (named_clause cnf steps h) (some_from (clause_numbered cnf steps h) some) in
    subst (Sat t) (ap (λ (d : Derived). d.clause) made.2) (derived_holds t (named_clause cnf steps) clause (values hints) made.0 made.1 all)

with_step_sound : (cnf : List (List Literal)) (steps more : List Derived) (r : Result Derived ProofFault) → IsSound cnf steps → ((s : Derived) → r ≡ Ok s → Follows cnf steps s)
    → ((with_step steps r ≡ on more) → IsSound cnf more) × ((with_step steps r ≡ done more) → (s : Derived) × (more ≡ s ∷ steps) × (s.clause ≡ []) × Follows cnf steps s)
with_step_sound cnf steps more (Ok s) sound follows =
    elim (cases_Bool (is_empty s.clause)) [
      | inl none ↦ (
        (λ is. let e : done (s ∷ steps) ≡ on more = rw none at is in cc),
        (λ is. let e : done (s ∷ steps) ≡ done more = rw none at is in (s, sym (let l : s ∷ steps ≡ more = cc in l), nil_from_length s.clause (eqb-true (length s.clause) 0 none), follows s refl)),
      )
      | inr some ↦ (
        (λ is. let e : on (s ∷ steps) ≡ on more = rw some at is in let l : s ∷ steps ≡ more = cc in subst (IsSound cnf) l (follows s refl, sound)),
        (λ is. let e : on (s ∷ steps) ≡ done more = rw some at is in cc),
      )
    ]
with_step_sound cnf steps more (Err kind) sound follows = ((λ is. cc), (λ is. cc))

taken_sound : (variables : ℕ) (cnf : List (List Literal)) (steps more : List Derived) (line : ProofLine) → IsSound cnf steps
    → ((taken variables cnf steps line ≡ on more) → IsSound cnf more) × ((taken variables cnf steps line ≡ done more) → (s : Derived) × (more ≡ s ∷ steps) × (s.clause ≡ []) × Follows cnf steps s)
taken_sound variables cnf steps more skipped sound = ((λ is. let l : steps ≡ more = cc in subst (IsSound cnf) l sound), (λ is. cc))
taken_sound variables cnf steps more (step number literals hints) sound =
    with_step_sound cnf steps more (step_result variables cnf steps number literals hints) sound (λ s is. step_sound variables cnf steps number literals hints s is)
taken_sound variables cnf steps more invalid sound = ((λ is. cc), (λ is. cc))

-- ---- the core

-- the needed ones of the CNF's clauses are satisfied
abbrev Base : Assignment → List (List Literal) → List ℕ → Type 0
Base t cnf numbers = (n : ℕ) → 0 < n → n ≤ length cnf → is_listed n numbers ≡ true → Sat t (clause_at cnf n)

abbrev is_given : List (List Literal) → ℕ → Bool
is_given cnf n = ltb 0 n && leb n (length cnf)

some_same : (a b : List Literal) → Some a ≡ Some b → a ≡ b
some_same a b h = cc

kept : (b : Bool) (n : ℕ) (used numbers : List ℕ) → is_listed n numbers ≡ true → is_listed n (if b then used ++ numbers else numbers) ≡ true
kept true n used numbers h = among-append_right n used numbers h
kept false n used numbers h = h

needs_hold : (t : Assignment) (cnf : List (List Literal)) (steps : List Derived) (numbers : List ℕ) → IsSound cnf steps → Base t cnf (needs steps numbers)
    → (n : ℕ) → is_listed n numbers ≡ true → (clause : List Literal) → clause_numbered cnf steps n ≡ Some clause → Sat t clause
needs_hold t cnf [] numbers sound base n among clause is =
    elim (cases_Bool (is_given cnf n)) [
      | inl given ↦
          let parts = and_parts (ltb 0 n) (leb n (length cnf)) given in
          let found : Some (clause_at cnf n) ≡ Some clause = rw given at is in
          subst (Sat t) (some_same (clause_at cnf n) clause found) (base n (grind arith) (grind arith) among)
      | inr other ↦ let found : None ≡ Some clause = rw other at is in cc
    ]
needs_hold t cnf (s ∷ earlier) numbers sound base n among clause is =
    let more : List ℕ = if is_listed s.number numbers then s.used ++ numbers else numbers in
    let before : (k : ℕ) → is_listed k more ≡ true → (c : List Literal) → clause_numbered cnf earlier k ≡ Some c → Sat t c = needs_hold t cnf earlier more sound.1 base in
    let still : is_listed n more ≡ true = kept (is_listed s.number numbers) n s.used numbers among in
    elim (cases_Bool (is_given cnf n)) [
      | inl given ↦
          let found : Some (clause_at cnf n) ≡ Some clause = rw given at is in
          before n still clause (cond-true (is_given cnf n) _ _ given ∙ found)
      | inr other ↦
          let found : (if eqb s.number n then Some s.clause else step_numbered earlier n) ≡ Some clause = rw other at is in
          elim (cases_Bool (eqb s.number n)) [
            | inl here ↦
                let own : Some s.clause ≡ Some clause = rw here at found in
                let needed : is_listed s.number numbers ≡ true = subst (λ k. is_listed k numbers ≡ true) (sym (eqb-true s.number n here)) among in
                let all : more ≡ s.used ++ numbers = cond-true (is_listed s.number numbers) _ _ needed in
                subst (Sat t) (some_same s.clause clause own)
                (sound.0 t (λ h used c at. before h (ap (is_listed h) all ∙ among-append_left h s.used numbers used) c at))
            | inr later ↦
                let rest : step_numbered earlier n ≡ Some clause = rw later at found in
                before n still clause (cond-false (is_given cnf n) _ _ other ∙ rest)
          ]
    ]

chosen_holds : (P : List Literal → Type 0) (f : ℕ → List Literal) (p : ℕ → Bool) (xs : List ℕ) → All P (map f (filter p xs)) → (n : ℕ) → is_listed n xs ≡ true → p n ≡ true → P (f n)
chosen_holds P f p [] all n among passes = cc
chosen_holds P f p (x ∷ xs) all n among passes =
    elim (cases_Bool (p x)) [
      | inl does ↦
          let here : All P (f x ∷ map f (filter p xs)) = rw does at all in
          elim (or_cases (eqb x n) (is_listed n xs) among) [
            | inl same ↦ subst (λ k. P (f k)) (eqb-true x n same) (All-head P (f x) (map f (filter p xs)) here)
            | inr later ↦ chosen_holds P f p xs (All-tail P (f x) (map f (filter p xs)) here) n later passes
          ]
      | inr fails ↦
          let rest : All P (map f (filter p xs)) = rw fails at all in
          elim (or_cases (eqb x n) (is_listed n xs) among) [
            | inl same ↦ let bad : p n ≡ false = subst (λ k. p k ≡ false) (eqb-true x n same) fails in cc
            | inr later ↦ chosen_holds P f p xs rest n later passes
          ]
    ]

core_sound : (cnf : List (List Literal)) (steps : List Derived) (s : Derived) → IsSound cnf steps → Follows cnf steps s → s.clause ≡ [] → IsCore cnf (core cnf (s ∷ steps))
unfolding core
core_sound cnf steps s sound follows none =
    let needed : List ℕ = needs (s ∷ steps) (s.number ∷ []) in
    let test : ℕ → Bool = λ n. is_listed n needed in
    let own : is_listed s.number (s.number ∷ []) ≡ true = or_left (eqb s.number s.number) false (eq-eqb s.number s.number refl) in
    let known : needed ≡ needs steps (s.used ++ s.number ∷ []) = ap (needs steps) (cond-true (is_listed s.number (s.number ∷ [])) (s.used ++ s.number ∷ []) (s.number ∷ []) own) in (
      (λ k d lt. let r = All-filter test (λ n. (1 ≤ n) × (n < 1 + length cnf)) (range_with_len 1 (length cnf)) (range_within 1 (length cnf)) k d lt in (omega arith, omega arith)),
      (λ t satisfied.
          let base : Base t cnf needed = λ n low high among. chosen_holds (Sat t) (clause_at cnf) test (range_with_len 1 (length cnf)) satisfied n (in_range 1 (length cnf) n (omega arith) (omega arith)) among in
          let earlier : Base t cnf (needs steps (s.used ++ s.number ∷ [])) = subst (Base t cnf) known base in
          let holds : Sat t s.clause = follows t (λ h used clause is. needs_hold t cnf steps (s.used ++ s.number ∷ []) sound earlier h (among-append_left h s.used (s.number ∷ []) used) clause is) in
          let bad : Sat t [] = subst (Sat t) none holds in
          cc),
    )

-- ---- the answer

answer_sound : (cnf : List (List Literal)) (found : List ℕ) (number : ℕ) (t : ProofState) (next : List Derived → PlainAnswer) → ((more : List Derived) → t ≡ on more → next more ≡ refuted found → IsCore cnf found)
    → ((more : List Derived) → t ≡ done more → IsCore cnf (core cnf more)) → answer_after cnf number t next ≡ refuted found → IsCore cnf found
answer_sound cnf found number (on steps) next more last is = more steps refl is
answer_sound cnf found number (done steps) next more last is = let e : core cnf steps ≡ found = cc in subst (IsCore cnf) e (last steps refl)
answer_sound cnf found number (fault kind) next more last is = cc

checked_from_sound : (variables : ℕ) (cnf : List (List Literal)) (steps : List Derived) (before : ℕ) (ls : List (List ℕ)) (found : List ℕ) → IsSound cnf steps → checked_from variables cnf steps before ls ≡ refuted found → IsCore cnf found
checked_from_sound variables cnf steps before [] found sound is = cc
checked_from_sound variables cnf steps before (line ∷ rest) found sound is =
    answer_sound cnf found (before + 1) (taken variables cnf steps (proof_line line)) (λ more. checked_from variables cnf more (before + 1) rest)
    (λ more t end. checked_from_sound variables cnf more (before + 1) rest found ((taken_sound variables cnf steps more (proof_line line) sound).0 t) end)
    (λ more t.
    let last = (taken_sound variables cnf steps more (proof_line line) sound).1 t in
    subst (λ steps. IsCore cnf (core cnf steps)) (sym last.1) (core_sound cnf steps last.0 sound last.3 last.2))
    is

empty_core : (cnf : List (List Literal)) (k : ℕ) → position is_empty cnf ≡ Some k → IsCore cnf ((k + 1) ∷ [])
empty_core cnf k is =
    elim (cases_Bool (ltb (position_or_len is_empty cnf) (length cnf))) [
      | inl some ↦
          let at : Some (position_or_len is_empty cnf) ≡ Some k = rw some at is in
          let same : position_or_len is_empty cnf ≡ k = cc in
          let inside : position_or_len is_empty cnf < length cnf = ltb-true _ _ some in
          let none : clause_at cnf (k + 1) ≡ [] =
          let index : k + 1 - 1 ≡ position_or_len is_empty cnf = omega arith in
          ap (λ i. get_or cnf i []) index ∙ nil_from_length (get_or cnf (position_or_len is_empty cnf) []) (eqb-true (length (get_or cnf (position_or_len is_empty cnf) [])) 0 (passes_at_first is_empty cnf [] inside)) in (
            All-cons (λ n. (0 < n) × (n ≤ length cnf)) (k + 1) [] (omega arith, omega arith) (All-nil (λ n. (0 < n) × (n ≤ length cnf))),
            (λ t satisfied.
                let holds : Sat t (clause_at cnf (k + 1)) = All-head (Sat t) (clause_at cnf (k + 1)) [] satisfied in
                let bad : Sat t [] = subst (Sat t) none holds in
                cc),
          )
      | inr none ↦ let at : None ≡ Some k = rw none at is in cc
    ]

checked_by : (cnf : List (List Literal)) (first : Option ℕ) (answer : PlainAnswer) (found : List ℕ) → ((k : ℕ) → first ≡ Some k → IsCore cnf ((k + 1) ∷ [])) → (answer ≡ refuted found → IsCore cnf found) → unless_empty first answer ≡ refuted found → IsCore cnf found
checked_by cnf None answer found empty rest is = rest is
checked_by cnf (Some k) answer found empty rest is = let e : (k + 1) ∷ [] ≡ found = cc in subst (IsCore cnf) e (empty k refl)

pub checked_sound : (variables : ℕ) (cnf : List (List Literal)) (text found : List ℕ) → checked variables cnf text ≡ refuted found → IsCore cnf found
unfolding checked
checked_sound variables cnf text found is =
    checked_by cnf (position is_empty cnf) (checked_from variables cnf [] 0 (lines text)) found (λ k at. empty_core cnf k at) (λ end. checked_from_sound variables cnf [] 0 (lines text) found tt end) is
