-- The clauses that a status compares better than some counts, in memory.
use Rattle.std.proofs.Common.{◌≡◌, inl, inr, ℕ, ◌+◌, ◌-◌, ◌<◌, ◌≤◌, Bool, true, false, not, ◌||◌, cond, List, [], ◌∷◌, ◌++◌, length, get_or, map, take, refl, sym, subst, ap, ◌∙◌, arith}
use Rattle.std.specs.Prelude.{IfOk, IfSome, Option, Some, None, Result, Ok, Err, nat_lt}
use Rattle.std.proofs.lemmas.Bool.Decides.{nat_tests}
use Rattle.std.proofs.lemmas.Grind.{common_steps}
use Rattle.std.specs.List.{list_any}
use Rattle.std.proofs.lemmas.List.Folds.{list_any-append}
use Rattle.std.proofs.lemmas.List.{length-append, length-map, map-append, take_more}
use Rattle.cudf_problem.specs.Universe.{PlainProblem}
use Rattle.cudf_job.specs.declared.criteria.Aim.{Aim}
use Rattle.cudf_job.specs.declared.criteria.Sign.{Sign}
use Rattle.cudf_job.specs.declared.criteria.Sign.TheVariants.{Least, Most}
use Rattle.cudf_job.specs.Aims.{count_row}
use Rattle.cudf_job.specs.declared.criteria.Criteria.{Criteria}
use Rattle.cudf_lrat.specs.Literals.{PlainCnf}
use Rattle.cudf_cnf.specs.Cnf.{Keyed, clauses_of, cnf, is_too_large as is_cnf_too_large}
use Rattle.cudf_better.specs.declared.constraint.Constraint.{Constraint}
use Rattle.cudf_better.specs.Better.{Item, better_clauses, constraint_by, constraints, counts_true, false_dnf, items, true_dnf}
use Rattle.cudf_better.specs.Cardinality.{lexicographic_clauses, next_variable}
use Rattle.cudf_better.specs.Encodings.{IsEncoded, has_too_many, is_too_large, variables}
use Rattle.cudf_better.specs.Working.Constraints.{AreConstraints, IsConstraint}
use Rattle.cudf_better.specs.Working.Definitions.{IsMade, PlainDefinitions, Reaches, at_most, formulas_of, with_constraints}
use Rattle.cudf_better.proofs.PutLemmas.{next_least}

-- ---- sizes

large : (v n p c : ℕ) (r : Bool) → p ≤ v → c ≤ n → (nat_lt 4294967295 p || nat_lt 4294967295 c) ≡ true → (nat_lt 2147483647 v || (nat_lt 4294967295 n || r)) ≡ true
large v n p c r a b h = grind (arith, common_steps, nat_tests)

-- all items fit
without_items : (a b r : Bool) → r ≡ false → (a || (b || r)) ≡ (a || b)
without_items a b true e = cc
without_items true b false e = refl
without_items false true false e = refl
without_items false false false e = refl

many_variables : (v n : ℕ) (r : Bool) → 2147483647 < v → (nat_lt 2147483647 v || (nat_lt 4294967295 n || r)) ≡ true
many_variables v n r h = grind (arith, common_steps, nat_tests)

not_many : (v n : ℕ) → 2147483647 < v → (nat_lt 2147483647 v || nat_lt 4294967295 n) ≡ false → ⊥
not_many v n h e = grind (arith, common_steps, nat_tests)

module _ (problem : PlainProblem) (counts : Criteria) (aims : List Aim) where
  has_packages : length problem.packages ≤ variables problem counts aims
  has_packages = let least = next_least (length problem.packages + 1) (constraints problem counts aims) in omega arith

  has_rules : length (cnf problem) ≤ length (better_clauses problem counts aims)
  unfolding better_clauses
  has_rules = omega (
    arith,
    length-append (clauses_of (cnf problem)) (lexicographic_clauses (length problem.packages + 1) [] (constraints problem counts aims)),
    length-map (cnf problem) (λ (c : Keyed). c.1),
  )

  pub many_packages : 2147483647 < length problem.packages → is_too_large problem counts aims ≡ true
  many_packages h = let all = has_packages in many_variables (variables problem counts aims) (length (better_clauses problem counts aims)) (list_any (has_too_many problem) aims) (omega (arith, h))

  pub many_rules : is_cnf_too_large problem ≡ true → is_too_large problem counts aims ≡ true
  many_rules h = large (variables problem counts aims) (length (better_clauses problem counts aims)) (length problem.packages) (length (cnf problem)) (list_any (has_too_many problem) aims) has_packages has_rules h

  made_is : (whole d : PlainDefinitions) (result : Option PlainCnf) → list_any (has_too_many problem) aims ≡ false → Reaches whole d → whole ≡ with_constraints (record { next = length problem.packages + 1; clauses = clauses_of (cnf problem) }) [] (constraints problem counts aims)
      → IsMade d result → IsEncoded problem counts aims result
  unfolding better_clauses
  made_is whole d result few (inl same) is made = exact result (subst (λ (d : PlainDefinitions). IsMade d result) (same ∙ is) made)
    where
      small : is_too_large problem counts aims ≡ (nat_lt 2147483647 (variables problem counts aims) || nat_lt 4294967295 (length (better_clauses problem counts aims)))
      small = without_items (nat_lt 2147483647 (variables problem counts aims)) (nat_lt 4294967295 (length (better_clauses problem counts aims))) (list_any (has_too_many problem) aims) few

      exact : (result : Option PlainCnf) → IsMade (record { next = next_variable (length problem.packages + 1) (constraints problem counts aims); clauses = better_clauses problem counts aims }) result → IsEncoded problem counts aims result
      exact None made = small ∙ made
      exact (Some held) made = (small ∙ made.0, made.1)
  made_is whole d None few (inr many) is made = let number = ap (λ (d : PlainDefinitions). d.next) is in many_variables (variables problem counts aims) (length (better_clauses problem counts aims)) (list_any (has_too_many problem) aims) (omega (arith, many.0))
  made_is whole d (Some cnf) few (inr many) is made = absurd (not_many (d.next - 1) (length d.clauses) (omega (arith, many.1)) made.0)

  pub made_ok : {E : Type 0} (whole d : PlainDefinitions) (r : Result (Option PlainCnf) E) → list_any (has_too_many problem) aims ≡ false → Reaches whole d → whole ≡ with_constraints (record { next = length problem.packages + 1; clauses = clauses_of (cnf problem) }) [] (constraints problem counts aims)
      → IfOk r (IsMade d) → IfOk r (IsEncoded problem counts aims)
  made_ok whole d (Ok made) few reached is h = made_is whole d made few reached is h
  made_ok whole d (Err e) few reached is h = h

pub where_some : {E P : Type 0} (r : Result (Option PlainCnf) E) → P → IfOk r (λ made. IfSome made (λ cnf. P))
where_some (Ok (Some cnf)) p = p
where_some (Ok None) p = tt
where_some (Err e) p = tt

pub fits : (n : ℕ) → n ≤ 18446744073709551615 → nat_lt 18446744073709551615 n ≡ false
fits n le = grind (arith, nat_tests)

-- ---- constraints

pub made_least : (problem : PlainProblem) (aim : Aim) (count : ℕ) (made : List Item) (bound : ℕ) (is : Bool) → aim.sign ≡ Least → made ≡ items problem aim.count → bound ≡ count → is ≡ counts_true aim.count
    → at_most bound (formulas_of is made) ≡ constraint_by problem aim.sign aim.count count
made_least problem aim count made bound is sign same size kind =
    (λ i. at_most (size i) (formulas_of (kind i) (same i))) ∙ ap (λ (s : Sign). constraint_by problem s aim.count count) (sym sign)

pub made_most : (problem : PlainProblem) (aim : Aim) (count : ℕ) (made : List Item) (bound : ℕ) (is : Bool) → aim.sign ≡ Most → made ≡ items problem aim.count → bound ≡ length made - count → is ≡ not (counts_true aim.count)
    → at_most bound (formulas_of is made) ≡ constraint_by problem aim.sign aim.count count
made_most problem aim count made bound is sign same size kind =
    (λ i. at_most (size i) (formulas_of (kind i) made)) ∙ (λ i. at_most (length (same i) - count) (formulas_of (not (counts_true aim.count)) (same i)))
    ∙ other (counts_true aim.count) ∙ ap (λ (s : Sign). constraint_by problem s aim.count count) (sym sign)
  where
    all : List Item
    all = items problem aim.count

    other : (b : Bool) → at_most (length all - count) (formulas_of (not b) all) ≡ at_most (length all - count) (map (cond b false_dnf true_dnf) all)
    other true = refl
    other false = refl

-- one more
pub constraint_more : (problem : PlainProblem) (counts : Criteria) (aims : List Aim) (aim : Aim) (made : List Constraint) (next : Constraint) → AreConstraints problem counts aims made → IsConstraint problem aim ((count_row aim.count).1 counts) next
    → AreConstraints problem counts (aims ++ aim ∷ []) (made ++ next ∷ [])
constraint_more problem counts aims aim made next so_far one =
    record {
      are = map-append (λ (b : Constraint). at_most b.bound b.formulas) made (next ∷ []) ∙ (λ i. so_far.are i ++ one.is i ∷ [])
          ∙ sym (map-append (λ (a : Aim). constraint_by problem a.sign a.count ((count_row a.count).1 counts)) aims (aim ∷ []));
      few = list_any-append (has_too_many problem) aims (aim ∷ []) ∙ (λ i. so_far.few i || (one.few i || false));
    }

-- the next aim's, by an index
pub constraint_next : (problem : PlainProblem) (counts : Criteria) (aims : List Aim) (i : ℕ) (aim : Aim) (made now : List Constraint) (next : Constraint) (count : ℕ) → i < length aims → AreConstraints problem counts (take i aims) made → IsConstraint problem aim count next
    → count ≡ (count_row aim.count).1 counts → aim ≡ get_or aims i aim → now ≡ made ++ next ∷ [] → AreConstraints problem counts (take (i + 1) aims) now
constraint_next problem counts aims i aim made now next count lt so_far one counted here pushed =
    subst (λ (now : List Constraint). AreConstraints problem counts (take (i + 1) aims) now) (sym pushed)
    (subst (λ (first : List Aim). AreConstraints problem counts first (made ++ next ∷ [])) (sym (take_more aims i aim lt ∙ ap (λ (a : Aim). take i aims ++ a ∷ []) (sym here)))
    (constraint_more problem counts (take i aims) aim made next so_far (subst (λ (n : ℕ). IsConstraint problem aim n next) counted one)))
