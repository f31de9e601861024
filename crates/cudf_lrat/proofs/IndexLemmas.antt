-- Indices of clauses, by their numbers.
use Rattle.std.proofs.Common.{◌≡◌, ◌≢◌, ℕ, ◌+◌, ◌-◌, ◌<◌, Bool, true, false, ◌&&◌, ◌||◌, ltb, leb, List, [], ◌∷◌, ◌++◌, length, get_or, Some, refl, sym, ap, ◌∙◌, arith}
use Rattle.std.specs.Prelude.{is_none, slice_index, unwrap_or}
use Rattle.std.specs.List.{list_any}
use Rattle.std.proofs.lemmas.Bool.{and_left, and_right, or_from, cond-false, le-ltb, lt-leb}
use Rattle.std.proofs.lemmas.List.{get_or-append_right, get_or-map, length-map, map_push}
use Rattle.std.proofs.lemmas.List.Elements.{All-push}
use Rattle.std.proofs.lemmas.List.Folds.{list_any-append, list_any_at}
use Rattle.cudf_lrat.proofs.StepsLemmas.{numbered-at, unnumbered}
use Rattle.cudf_lrat.specs.Lists.{lists_in}
use Rattle.cudf_lrat.specs.Literals.{PlainCnf}
use Rattle.cudf_lrat.specs.Steps.{clause_numbered, is_unnamed, named_clause, step_numbered, values}
use Rattle.cudf_lrat.specs.Working.Indices.{AreIndicesOf, IsAfter, IsIndexOf, indexed, number_at, steps_in}
use Rattle.cudf_lrat.specs.declared.cnf.Literal.{Literal}
use Rattle.cudf_lrat.specs.declared.reader.SignedNumber.{SignedNumber}
use Rattle.cudf_lrat.specs.declared.steps.ProofSteps.{ProofSteps}

not_given : (given number : ℕ) → given < number → (ltb 0 number && leb number given) ≡ false
not_given given number above = and_right (ltb 0 number) (leb number given) (lt-leb number given above)

-- a step's number
pub index-step : (cnf : PlainCnf) (steps : ProofSteps) (number position : ℕ) → IsAfter cnf steps → position < length steps.numbers.items → slice_index steps.numbers.items position ≡ number → IsIndexOf cnf steps number (length cnf.clauses + position)
index-step cnf steps number position after inside is =
    let given : ℕ = length cnf.clauses in
    let above : given < number = let a = after.ascending.above position inside in omega arith in
    let found : step_numbered (steps_in cnf steps) number ≡ Some (get_or (lists_in steps.clauses) position []) =
    numbered-at given steps.numbers.items (lists_in steps.clauses) (lists_in steps.used) number position (length steps.numbers.items) after.ascending inside (omega arith) is in
    let named : clause_numbered cnf.clauses (steps_in cnf steps) number ≡ Some (get_or (lists_in steps.clauses) position []) = cond-false _ _ _ (not_given given number above) ∙ found in
    let back : given + position - given ≡ position = omega arith in
    record {
      inside = omega arith;
      number_is = cond-false (ltb (given + position) given) _ _ (le-ltb (given + position) given (omega arith)) ∙ ap (slice_index steps.numbers.items) back ∙ is;
      named = ap is_none named;
      clause_is = get_or-append_right cnf.clauses (lists_in steps.clauses) given (given + position) [] refl (omega arith) ∙ ap (λ i. get_or (lists_in steps.clauses) i []) back ∙ sym (ap (λ o. unwrap_or o []) named);
    }

unnamed-by : (cnf : PlainCnf) (steps : ProofSteps) (number : ℕ) → (ltb 0 number && leb number (length cnf.clauses)) ≡ false → ((k : ℕ) → k < length steps.numbers.items → slice_index steps.numbers.items k ≢ number) → is_unnamed cnf.clauses (steps_in cnf steps) number ≡ true
unnamed-by cnf steps number other none =
    ap is_none (cond-false _ _ _ other ∙ unnumbered (length cnf.clauses) steps.numbers.items (lists_in steps.clauses) (lists_in steps.used) number (length steps.numbers.items) none)

pub unnamed-above : (cnf : PlainCnf) (steps : ProofSteps) (number : ℕ) → length cnf.clauses < number → ((k : ℕ) → k < length steps.numbers.items → slice_index steps.numbers.items k ≢ number) → is_unnamed cnf.clauses (steps_in cnf steps) number ≡ true
unnamed-above cnf steps number above none = unnamed-by cnf steps number (not_given (length cnf.clauses) number above) none

pub unnamed-zero : (cnf : PlainCnf) (steps : ProofSteps) (number : ℕ) → IsAfter cnf steps → number ≡ 0 → is_unnamed cnf.clauses (steps_in cnf steps) number ≡ true
unnamed-zero cnf steps number after zero =
    unnamed-by cnf steps number (and_left (ltb 0 number) (leb number (length cnf.clauses)) (le-ltb 0 number (omega arith))) (λ k lt e. let above = after.ascending.above k lt in omega arith)

-- one more number and its index
pub indices-push : (cnf : PlainCnf) (steps : ProofSteps) (numbers indices : List ℕ) (number index : ℕ) → AreIndicesOf cnf steps numbers indices → IsIndexOf cnf steps number index → AreIndicesOf cnf steps (numbers ++ number ∷ []) (indices ++ index ∷ [])
indices-push cnf steps numbers indices number index are is =
    let at : ℕ → ℕ = number_at (length cnf.clauses) steps.numbers.items in
    let named : ℕ → List Literal = named_clause cnf.clauses (steps_in cnf steps) in
    let here : named (at index) ≡ indexed cnf steps index = ap named is.number_is ∙ sym is.clause_is in
    record {
      inside = All-push (λ i. i < length cnf.clauses + length steps.numbers.items) indices index are.inside is.inside;
      numbers_are = map_push at indices index ∙ (λ i. are.numbers_are i ++ is.number_is i ∷ []);
      clauses_are = All-push (λ i. named (at i) ≡ indexed cnf steps i) indices index are.clauses_are here;
    }

-- one number more that is named, and one that isn't
pub none-more : (p : ℕ → Bool) (xs : List ℕ) (x : ℕ) → list_any p xs ≡ false → p x ≡ false → list_any p (xs ++ x ∷ []) ≡ false
none-more p xs x none here = list_any-append p xs (x ∷ []) ∙ or_from (list_any p xs) (p x || false) none (or_from (p x) false here refl)

pub one-unnamed : (p : ℕ → Bool) (hints : List SignedNumber) (i : ℕ) (d : SignedNumber) → i < length hints → p (get_or hints i d).value ≡ true → list_any p (values hints) ≡ true
one-unnamed p hints i d inside here =
    let same : get_or (values hints) i 0 ≡ (get_or hints i d).value = get_or-map (λ (n : SignedNumber). n.value) hints i d 0 inside in
    list_any_at p (values hints) i 0 (omega (arith, length-map hints (λ (n : SignedNumber). n.value))) (ap p same ∙ here)
