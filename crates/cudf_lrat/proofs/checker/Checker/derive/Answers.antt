use Rattle.std.proofs.Common.{◌≡◌, ◌==◌, ◌∷◌, ℕ, List, Ok, Result, false, true, length, map, take, sym, ap, ◌∙◌}
use Rattle.std.proofs.lemmas.Bool.{cond-false, cond-true}
use Rattle.cudf_lrat.specs.Answers.{done, on, with_step}
use Rattle.cudf_lrat.specs.Lines.{is_empty}
use Rattle.cudf_lrat.specs.Steps.{Derived, denied, derived, propagate, result_map}
use Rattle.cudf_lrat.specs.Working.Indices.{indexed, number_at, steps_in}
use Rattle.cudf_lrat.specs.declared.checker.ProofFault.{ProofFault}
use Rattle.cudf_lrat.specs.declared.cnf.Literal.{Literal}
use Rattle.cudf_lrat.proofs.checker.Checker.derive.Goals as goal

-- a step that was added, with no literals and with some
module _ (before more : List Derived) (number n : ℕ) (clause literals : List Literal) (indices hints : List ℕ) (at : ℕ → ℕ) (all : Result (List ℕ) ProofFault) where
  added-empty : literals ≡ clause → indices ≡ hints → more ≡ record { number = number; clause = literals; used = map at (take n indices) } ∷ before → Ok (take n hints) ≡ all → is_empty clause ≡ true
      → done more ≡ with_step before (result_map (λ used. derived number clause (map at used)) all)
  added-empty same which is found none =
      ap done (is ∙ (λ i. derived number (same i) (map at (take n (which i))) ∷ before)) ∙ sym (cond-true (is_empty clause) _ _ none)
      ∙ ap (λ r. with_step before (result_map (λ used. derived number clause (map at used)) r)) found

  added-more : literals ≡ clause → indices ≡ hints → more ≡ record { number = number; clause = literals; used = map at (take n indices) } ∷ before → Ok (take n hints) ≡ all → is_empty clause ≡ false
      → on more ≡ with_step before (result_map (λ used. derived number clause (map at used)) all)
  added-more same which is found some =
      ap on (is ∙ (λ i. derived number (same i) (map at (take n (which i))) ∷ before)) ∙ sym (cond-false (is_empty clause) _ _ some)
      ∙ ap (λ r. with_step before (result_map (λ used. derived number clause (map at used)) r)) found

pub returns-then-is_empty-clause-taken : goal.returns-then-is_empty-clause-taken
returns-then-is_empty-clause-taken c =
    let cnf = c.args.cnf.now in
    let self = c.args.self.now in
    let all = propagate (indexed cnf self.steps) (denied self.clause.items) self.indices.items in
    let found : Ok (take c.in-Ok.used self.indices.items) ≡ all = (λ i. Ok (take c.in-Ok.used (sym c.deref-2.ensures.value i))) ∙ c.in-Ok.ensures.propagated ∙ (λ i. propagate (indexed cnf self.steps) (denied (c.deref.ensures.value i)) (c.deref-2.ensures.value i)) in
    let none : is_empty self.clause.items ≡ true = ap (λ k. k == 0) (sym self.clause.ok.0) ∙ sym c.if-is_empty.ensures in
    added-empty (steps_in cnf self.steps) (steps_in cnf c.push.new.self) c.args.number c.in-Ok.used self.clause.items c.deref-in-Ok.result.now c.deref-in-Ok-2.result.now self.indices.items (number_at (length cnf.clauses) self.steps.numbers.items) all
    c.deref-in-Ok.ensures.value c.deref-in-Ok-2.ensures.value c.in_ok-push-in-Ok.ensures.steps found none

pub returns-else-is_empty-clause-taken : goal.returns-else-is_empty-clause-taken
returns-else-is_empty-clause-taken c =
    let cnf = c.args.cnf.now in
    let self = c.args.self.now in
    let all = propagate (indexed cnf self.steps) (denied self.clause.items) self.indices.items in
    let found : Ok (take c.in-Ok.used self.indices.items) ≡ all = (λ i. Ok (take c.in-Ok.used (sym c.deref-2.ensures.value i))) ∙ c.in-Ok.ensures.propagated ∙ (λ i. propagate (indexed cnf self.steps) (denied (c.deref.ensures.value i)) (c.deref-2.ensures.value i)) in
    let some : is_empty self.clause.items ≡ false = ap (λ k. k == 0) (sym self.clause.ok.0) ∙ sym c.if-is_empty.ensures in
    added-more (steps_in cnf self.steps) (steps_in cnf c.push.new.self) c.args.number c.in-Ok.used self.clause.items c.deref-in-Ok.result.now c.deref-in-Ok-2.result.now self.indices.items (number_at (length cnf.clauses) self.steps.numbers.items) all
    c.deref-in-Ok.ensures.value c.deref-in-Ok-2.ensures.value c.in_ok-push-in-Ok.ensures.steps found some
