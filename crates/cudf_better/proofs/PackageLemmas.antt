-- The items of packages, and of what they recommend, package by package.
use Rattle.std.proofs.Common.{◌≡◌, ℕ, zero, suc, ◌+◌, ◌<◌, ◌≤◌, ◌==◌, Bool, true, false, not, ◌&&◌, cond, List, [], ◌∷◌, ◌++◌, length, get_or, map, filter, take, refl, sym, ap, ◌∙◌, arith}
use Rattle.std.specs.Prelude.{Option, unwrap_or}
use Rattle.std.specs.List.{enumerate_from, flat_map, list_any}
use Rattle.std.specs.Option.{option_or, option_and_then}
use Rattle.std.proofs.lemmas.Grind.{flat_map-append}
use Rattle.std.proofs.lemmas.List.{append-nil, append_assoc, map-append, take_all, take_more}
use Rattle.cudf_value.specs.Formulas.{PlainAtom}
use Rattle.cudf_problem.specs.Promises.Packages.{recommends_at}
use Rattle.cudf_problem.specs.Universe.{PlainPackage, PlainProblem, package_at}
use Rattle.cudf_index.proofs.SearchLemmas.{list_any-filter}
use Rattle.cudf_index.specs.Promises.Places.{places_where}
use Rattle.cudf_index.specs.Satisfaction.{Placed, meets_clause_alone}
use Rattle.cudf_lrat.specs.declared.cnf.Literal.{Literal}
use Rattle.cudf_referee.proofs.RecommendLemmas.{nothing}
use Rattle.cudf_referee.specs.Proposals.{everything, holds_place, recommended}
use Rattle.cudf_cnf.specs.Cnf.{is_in, one_of}
use Rattle.cudf_cnf.proofs.PlaceLemmas.{one_of-where}
use Rattle.cudf_cnf.proofs.ProblemLemmas.{package_at_index}
use Rattle.cudf_better.specs.Better.{Item, all_packages, changes, item, missed_items}
use Rattle.cudf_better.specs.Working.Sources.{change_at, missed_by}
use Rattle.cudf_better.proofs.BetterLemmas.{and_swap, any_same, or_false}
use Rattle.cudf_better.proofs.SourceLemmas.{change_is, place_at}

module _ (problem : PlainProblem) where
  abbrev ps : List PlainPackage
  ps = problem.packages

  -- the first packages, each beside its place
  abbrev pub first : ℕ → List Placed
  first n = enumerate_from 1 (take n ps)

  placed_push : (n : ℕ) (xs : List PlainPackage) (x : PlainPackage) → enumerate_from n (xs ++ x ∷ []) ≡ enumerate_from n xs ++ (n + length xs, x) ∷ []
  placed_push n [] x = ap (λ (m : ℕ). (m, x) ∷ []) {x = n} {y = n + 0} (omega arith)
  placed_push n (y ∷ xs) x = ap (λ qs. (n, y) ∷ qs) (placed_push (n + 1) xs x ∙ ap (λ (m : ℕ). enumerate_from (n + 1) xs ++ (m, x) ∷ []) {x = n + 1 + length xs} {y = n + suc (length xs)} (omega arith))

  taken : (n : ℕ) (xs : List PlainPackage) → n ≤ length xs → length (take n xs) ≡ n
  taken zero xs le = refl
  taken (suc n) [] le = absurd (omega arith)
  taken (suc n) (x ∷ xs) le = ap suc (taken n xs (omega arith))

  pub first_more : (i : ℕ) (d : PlainPackage) → i < length ps → first (i + 1) ≡ first i ++ (i + 1, get_or ps i d) ∷ []
  first_more i d lt =
      ap (enumerate_from 1) (take_more ps i d lt) ∙ placed_push 1 (take i ps) (get_or ps i d)
      ∙ ap (λ (m : ℕ). first i ++ (m, get_or ps i d) ∷ []) {x = 1 + length (take i ps)} {y = i + 1} (omega (arith, taken i ps (omega arith)))

  pub first_all : (i : ℕ) → length ps ≤ i → first i ≡ all_packages problem
  first_all i end = ap (enumerate_from 1) (take_all i ps end)

  -- ---- touched

  abbrev touched : Placed → Item
  touched p = item (changes p ∷ []) []

  pub touched_more : (i : ℕ) (old cur new : List Item) (literal : Literal) → i < length ps → cur ≡ old ++ map touched (first i) → literal ≡ change_at problem (i + 1) → new ≡ cur ++ item (literal ∷ []) [] ∷ []
      → new ≡ old ++ map touched (first (i + 1))
  touched_more i old cur new literal lt before is put =
      let p : Placed = (i + 1, get_or ps i nothing) in
      put ∙ (λ j. before j ++ item ((is ∙ change_is problem i nothing lt) j ∷ []) [] ∷ [])
      ∙ append_assoc old (map touched (first i)) (touched p ∷ [])
      ∙ ap (λ is. old ++ is) (sym (map-append touched (first i) (p ∷ [])) ∙ ap (map touched) (sym (first_more i nothing lt)))

  -- ---- recommended

  -- whether a package passes a test, by its place
  passes : (test : Placed → Bool) (i : ℕ) (d : PlainPackage) → i < length ps → holds_place (filter test (all_packages problem)) (i + 1) ≡ test (i + 1, get_or ps i d)
  passes test i d lt =
      let all = all_packages problem in
      list_any-filter (λ (q : Placed). q.0 == i + 1) test all
      ∙ any_same (λ (q : Placed). test q && q.0 == i + 1) (λ q. q.0 == i + 1 && test q) (λ q. and_swap (test q) (q.0 == i + 1)) all
      ∙ sym (list_any-filter test (λ (q : Placed). q.0 == i + 1) all)
      ∙ ap (list_any test) (package_at_index ps i d lt)
      ∙ or_false (test (i + 1, get_or ps i d))

  pub missed_met : (place : ℕ) (clause : List PlainAtom) (is : Bool) (every : List Placed) (old : List Item) → every ≡ all_packages problem → is ≡ true → is ≡ holds_place (filter (meets_clause_alone clause) every) place
      → old ≡ old ++ missed_by problem place clause
  missed_met place clause is every old same e found =
      sym (append-nil old)
      ∙ (λ j. old ++ cond ((sym e ∙ found ∙ ap (λ (all : List Placed). holds_place (filter (meets_clause_alone clause) all) place) same) j) [] (item (is_in place ∷ []) (one_of (meets_clause_alone clause) (all_packages problem)) ∷ []))

  pub missed_put : (place : ℕ) (clause : List PlainAtom) (is : Bool) (every : List Placed) (old new : List Item) (literal : Literal) (places : List ℕ) (none : List Literal) → every ≡ all_packages problem → is ≡ false
      → is ≡ holds_place (filter (meets_clause_alone clause) every) place → literal ≡ is_in place → places ≡ places_where (meets_clause_alone clause) every → none ≡ map is_in places → new ≡ old ++ item (literal ∷ []) none ∷ []
      → new ≡ old ++ missed_by problem place clause
  missed_put place clause is every old new literal places none same e found own at made put =
      put ∙ (λ j. old ++ item (own j ∷ []) ((made ∙ ap (map is_in) at ∙ one_of-where (meets_clause_alone clause) every ∙ ap (one_of (meets_clause_alone clause)) same) j) ∷ [])
      ∙ (λ j. old ++ cond ((sym e ∙ found ∙ ap (λ (all : List Placed). holds_place (filter (meets_clause_alone clause) all) place) same) j) [] (item (is_in place ∷ []) (one_of (meets_clause_alone clause) (all_packages problem)) ∷ []))

  missed_same : (i : ℕ) (d : PlainPackage) → i < length ps → missed_items problem (i + 1, get_or ps i d) ≡ flat_map (missed_by problem (i + 1)) (recommended (everything problem) (i + 1, get_or ps i d))
  missed_same i d lt = by (recommended (everything problem) p)
    where
      p : Placed
      p = (i + 1, get_or ps i d)

      made : List PlainAtom → Item
      made clause = item (is_in (i + 1) ∷ []) (one_of (meets_clause_alone clause) (all_packages problem))

      by : (clauses : List (List PlainAtom)) → map made (filter (λ clause. not (meets_clause_alone clause p)) clauses) ≡ flat_map (missed_by problem (i + 1)) clauses
      by [] = refl
      by (clause ∷ clauses) = one (meets_clause_alone clause p) (by clauses) ∙ (λ j. cond (sym (passes (meets_clause_alone clause) i d lt) j) [] (made clause ∷ []) ++ flat_map (missed_by problem (i + 1)) clauses)
        where
          one : (b : Bool) → map made (filter (λ clause. not (meets_clause_alone clause p)) clauses) ≡ flat_map (missed_by problem (i + 1)) clauses
              → map made (cond (not b) (clause ∷ filter (λ clause. not (meets_clause_alone clause p)) clauses) (filter (λ clause. not (meets_clause_alone clause p)) clauses)) ≡ cond b [] (made clause ∷ []) ++ flat_map (missed_by problem (i + 1)) clauses
          one true more = more
          one false more = ap (λ is. made clause ∷ is) more

  -- what the package at a place recommends
  recommends_is : (i : ℕ) (d : PlainPackage) → i < length ps → recommends_at problem (i + 1) ≡ option_or (get_or ps i d).recommends problem.recommends
  recommends_is i d lt =
      let at = ap (package_at problem) {x = i + 1} {y = 1 + i} (omega arith) ∙ place_at problem i d lt in
      ap (λ (o : Option PlainPackage). option_or (option_and_then (λ p. p.recommends) o) problem.recommends) at

  pub recommended_more : (i : ℕ) (r : Option (List (List PlainAtom))) (old cur new : List Item) → i < length ps → cur ≡ old ++ flat_map (missed_items problem) (first i) → r ≡ recommends_at problem (i + 1)
      → new ≡ cur ++ flat_map (missed_by problem (i + 1)) (unwrap_or r []) → new ≡ old ++ flat_map (missed_items problem) (first (i + 1))
  recommended_more i r old cur new lt before is put =
      let p : Placed = (i + 1, get_or ps i nothing) in
      put ∙ (λ j. before j ++ flat_map (missed_by problem (i + 1)) (unwrap_or ((is ∙ recommends_is i nothing lt) j) []))
      ∙ ap (λ is. (old ++ flat_map (missed_items problem) (first i)) ++ is) (sym (missed_same i nothing lt))
      ∙ append_assoc old (flat_map (missed_items problem) (first i)) (missed_items problem p)
      ∙ ap (λ is. old ++ (flat_map (missed_items problem) (first i) ++ is)) (sym (append-nil (missed_items problem p)))
      ∙ ap (λ is. old ++ is) (sym (flat_map-append (missed_items problem) (first i) (p ∷ [])) ∙ ap (flat_map (missed_items problem)) (sym (first_more i nothing lt)))
