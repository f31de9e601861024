-- What the clauses of each kind of instance say: a status doesn't satisfy all of them where it violates the instance.
use Rattle.std.proofs.Common.{◌≡◌, ℕ, ◌==◌, Bool, true, false, not, ◌&&◌, ◌||◌, nat_lt, List, [], ◌∷◌, filter, cond, refl, sym, ap, ◌∙◌, arith}
use Rattle.std.specs.List.{list_all, list_any, flat_map, enumerate_from}
use Rattle.std.proofs.Math.Bool.{and-false, and-true, and_comm, not-not, or-false}
use Rattle.std.proofs.lemmas.Grind.{common_steps}
use Rattle.std.proofs.lemmas.Bool.Decides.{nat_tests}
use Rattle.std.proofs.lemmas.List.Elements.{filter_agree}
use Rattle.std.proofs.lemmas.List.Folds.{list_all-append, list_any-append}
use Rattle.cudf_value.specs.Formulas.{PlainAtom}
use Rattle.cudf_value.specs.Vpkgs.{PlainVpkg}
use Rattle.cudf_problem.specs.Universe.{PlainPackage}
use Rattle.cudf_index.specs.Promises.Counts.{differ}
use Rattle.cudf_index.specs.Satisfaction.{Placed, meets_alone, numbers_of, satisfies, satisfies_clause, without, meets_clause_alone}
use Rattle.cudf_index.proofs.SatisfactionLemmas.{member_alone}
use Rattle.cudf_index.proofs.SearchLemmas.{list_any-filter}
use Rattle.cudf_lrat.specs.declared.cnf.Literal.{Literal}
use Rattle.cudf_lrat.specs.Literals.{is_satisfied_by}
use Rattle.cudf_referee.specs.Proposals.{holds_place}
use Rattle.cudf_referee.specs.Violations.{are_lower, are_many}
use Rattle.cudf_referee.proofs.ListLemmas.{all_kept, filter-both, list_all-flat_map}
use Rattle.cudf_referee.proofs.MissedLemmas.{always}
use Rattle.cudf_referee.proofs.RemedyLemmas.{clause_alone}
use Rattle.cudf_referee.proofs.StatusLemmas.{holds-filter}
use Rattle.cudf_cnf.specs.Cnf.{differing_clauses, is_out, needs_clauses, none_of, one_of}
use Rattle.cudf_cnf.proofs.PairLemmas.{lower_any, many-once}
use Rattle.cudf_cnf.proofs.TestLemmas.{list_any-same, not_all}

-- the status doesn't satisfy all of these clauses
abbrev pub fails : (ℕ → Bool) → List (List Literal) → Bool
fails is clauses = not (list_all (is_satisfied_by is) clauses)

-- the packages at the true places
abbrev pub installed : (ℕ → Bool) → List Placed → List Placed
installed is all = filter (λ q. is q.0) all

-- a package of the problem is held where it is installed
pub holds_own : (is : ℕ → Bool) (all : List Placed) (place : ℕ) → holds_place all place ≡ true → holds_place (installed is all) place ≡ is place
holds_own is all place there = holds-filter is all place ∙ ap (λ b. is place && b) there ∙ and-true (is place)

-- ---- what clauses are made of

module _ (is : ℕ → Bool) where
  -- one of those that pass is installed
  one_of_is : (test : Placed → Bool) (all : List Placed) → is_satisfied_by is (one_of test all) ≡ list_any test (installed is all)
  one_of_is test [] = refl
  one_of_is test (q ∷ all) = grind (arith, common_steps, one_of_is test all)

  pub one_fails : (test : Placed → Bool) (all : List Placed) → fails is (one_of test all ∷ []) ≡ not (list_any test (installed is all))
  one_fails test all = ap not (and-true (is_satisfied_by is (one_of test all)) ∙ one_of_is test all)

  pub meets_fails : (v : PlainVpkg) (all : List Placed) → fails is (one_of (meets_alone v) all ∷ []) ≡ not (satisfies (installed is all) v)
  meets_fails v all = one_fails (meets_alone v) all ∙ ap not (sym (member_alone (installed is all) v))

  -- a clause for each of those that pass
  pub none_fails : (literals : List Literal) (test : Placed → Bool) (all : List Placed)
      → fails is (none_of literals test all) ≡ (not (is_satisfied_by is literals) && list_any test (installed is all))
  none_fails literals test [] = sym (and-false (not (is_satisfied_by is literals)))
  none_fails literals test (q ∷ all) = grind (arith, common_steps, none_fails literals test all, list_any-append)

  -- and where the package at a place isn't installed none is needed
  pub out_fails : (place : ℕ) (test : Placed → Bool) (all : List Placed) → fails is (none_of (is_out place ∷ []) test all) ≡ (is place && list_any test (installed is all))
  out_fails place test all = none_fails (is_out place ∷ []) test all ∙ ap (λ b. b && list_any test (installed is all)) (ap not (or-false (not (is place))) ∙ not-not (is place))

  -- ---- depends

  found : (test : Placed → Bool) (place : ℕ) → is place ≡ true → (all : List Placed) → holds_place (filter test all) place ≡ true → list_any test (installed is all) ≡ true
  found test place here [] there = there
  found test place here (q ∷ all) there = grind (arith, common_steps, nat_tests, found test place here all)

  pub needs_fails : (all : List Placed) (place : ℕ) → holds_place all place ≡ true → (clause : List PlainAtom)
      → fails is (needs_clauses all place clause) ≡ (is place && not (satisfies_clause (installed is all) clause))
  needs_fails all place there clause = by (satisfies_clause [] clause) refl
    where
      meets : Placed → Bool
      meets = meets_clause_alone clause

      clauses : Bool → List (List Literal)
      clauses b = cond b [] ((is_out place ∷ one_of meets all) ∷ [])

      -- where the package itself would do, it does wherever it is installed
      lacking : (b : Bool) → holds_place (filter meets all) place ≡ b → fails is (clauses b) ≡ (is place && not (list_any meets (installed is all)))
      lacking true does = own (is place) refl
        where
          own : (b : Bool) → is place ≡ b → false ≡ (b && not (list_any meets (installed is all)))
          own true here = ap not (sym (found meets place here all does))
          own false here = refl
      lacking false alone = turn (is place) (is_satisfied_by is (one_of meets all)) ∙ ap (λ b. is place && not b) (one_of_is meets all)
        where
          turn : (i o : Bool) → not ((not i || o) && true) ≡ (i && not o)
          turn true true = refl
          turn true false = refl
          turn false o = refl

      by : (b : Bool) → satisfies_clause [] clause ≡ b → fails is (clauses (holds_place (filter meets all) place)) ≡ (is place && not (satisfies_clause (installed is all) clause))
      by true e =
          ap (λ b. fails is (clauses b)) (ap (λ qs. holds_place qs place) (all_kept meets (λ q. always clause e (q ∷ [])) all) ∙ there)
          ∙ sym (ap (λ b. is place && not b) (always clause e (installed is all)) ∙ and-false (is place))
      by false e = lacking (holds_place (filter meets all) place) refl ∙ ap (λ b. is place && not b) (sym (clause_alone (installed is all) clause e))

  -- ---- conflicts

  pub conflict_fails : (all : List Placed) (place : ℕ) (v : PlainVpkg)
      → fails is (none_of (is_out place ∷ []) (meets_alone v) (without place all)) ≡ (is place && satisfies (without place (installed is all)) v)
  conflict_fails all place v =
      let own = λ (q : Placed). is q.0 in
      let other = λ (q : Placed). not (q.0 == place) in
      let swapped : installed is (without place all) ≡ without place (installed is all) =
      sym (filter-both other own all) ∙ filter_agree (λ q. other q && own q) (λ q. own q && other q) (λ q. and_comm (other q) (own q)) all ∙ filter-both own other all in
      out_fails place (meets_alone v) (without place all)
      ∙ ap (λ b. is place && b) (sym (member_alone (installed is (without place all)) v) ∙ ap (λ qs. satisfies qs v) swapped)

  -- ---- the request

  pub removal_fails : (all : List Placed) (v : PlainVpkg) → fails is (none_of [] (meets_alone v) all) ≡ satisfies (installed is all) v
  removal_fails all v = none_fails [] (meets_alone v) all ∙ sym (member_alone (installed is all) v)

  pub lower_fails : (all : List Placed) (before name : List ℕ)
      → fails is (none_of [] (λ q. are_lower before (numbers_of name (q ∷ []))) all) ≡ are_lower before (numbers_of name (installed is all))
  lower_fails all before name = none_fails [] (λ q. are_lower before (numbers_of name (q ∷ []))) all ∙ sym (lower_any before name (installed is all))

  differing_fails : (all : List Placed) (name : List ℕ) (p : Placed)
      → fails is (differing_clauses all name p) ≡ (is p.0 && (differ name p p || list_any (λ q. nat_lt p.0 q.0 && differ name p q) (installed is all)))
  differing_fails all name p =
      let later = λ (q : Placed). nat_lt p.0 q.0 && differ name p q in
      ap not (list_all-append (is_satisfied_by is) (cond (differ name p p) ((is_out p.0 ∷ []) ∷ []) []) (none_of (is_out p.0 ∷ []) later all))
      ∙ by (differ name p p) (list_all (is_satisfied_by is) (none_of (is_out p.0 ∷ []) later all)) (list_any later (installed is all)) (out_fails p.0 later all)
    where
      alone : (i rest any : Bool) → not rest ≡ (i && any) → not (((not i || false) && true) && rest) ≡ (i && true)
      alone true rest any h = refl
      alone false rest any h = h

      by : (b rest any : Bool) → not rest ≡ (is p.0 && any) → not (list_all (is_satisfied_by is) (cond b ((is_out p.0 ∷ []) ∷ []) []) && rest) ≡ (is p.0 && (b || any))
      by true rest any h = alone (is p.0) rest any h
      by false rest any h = h

  pub many_fails : (packages : List PlainPackage) (name : List ℕ)
      → let all = enumerate_from 1 packages in fails is (flat_map (differing_clauses all name) all) ≡ are_many (numbers_of name (installed is all))
  many_fails packages name =
      let all = enumerate_from 1 packages in
      let own = λ (p : Placed). is p.0 in
      let once = λ (p : Placed). differ name p p || list_any (λ q. nat_lt p.0 q.0 && differ name p q) (installed is all) in
      ap not (list_all-flat_map (is_satisfied_by is) (differing_clauses all name) all)
      ∙ not_all (λ p. list_all (is_satisfied_by is) (differing_clauses all name p)) all
      ∙ list_any-same (λ p. fails is (differing_clauses all name p)) (λ p. own p && once p) (differing_fails all name) all
      ∙ sym (list_any-filter once own all)
      ∙ many-once name is packages
