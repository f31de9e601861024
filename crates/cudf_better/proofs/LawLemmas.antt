-- A solution that compares better than an answer satisfies the clauses.
use Rattle.std.proofs.Common.{◌≡◌, ℕ, suc, ◌+◌, ◌-◌, ◌<◌, ◌≤◌, ◌==◌, ◌⊎◌, inl, inr, ⊎_elim, get_or, Bool, true, false, not, ◌&&◌, ◌||◌, cond, List, [], ◌∷◌, length, map, filter, refl, sym, subst, ap, ◌∙◌, arith}
use Rattle.std.specs.Prelude.{All, IsTrue, Some, find, nat_lt, nat_le}
use Rattle.std.specs.List.{count_by, enumerate_from, flat_map, list_all, list_any}
use Rattle.std.specs.Ordering.{nat_cmp}
use Rattle.std.specs.Option.{option_map_or}
use Rattle.std.specs.declared.cmp.Ordering.TheVariants.{Less, Equal, Greater}
use Rattle.std.proofs.lemmas.Bool.{eqb-true, ltb-false, ltb-true}
use Rattle.std.proofs.lemmas.Bool.Decides.{nat_tests}
use Rattle.std.proofs.lemmas.List.Elements.{All-append, All-cons, All-filter, All-head, All-map, All-nil, All-tail, All-weaker}
use Rattle.std.proofs.lemmas.List.Sums.{AllPass-from_list_all, count_by-le-length}
use Rattle.cudf_problem.specs.Documents.{is_empty}
use Rattle.cudf_problem.specs.Promises.Packages.{are_distinct}
use Rattle.cudf_problem.specs.Statuses.{PlainUnknown, is_initial}
use Rattle.cudf_problem.specs.Universe.{PlainPackage, PlainProblem, package_id}
use Rattle.cudf_index.specs.Satisfaction.{Placed, meets_clause_alone, members}
use Rattle.cudf_job.specs.Aims.{count_row}
use Rattle.cudf_job.specs.Comparing.{aim_cmp, compare, differ_in, sign_cmp}
use Rattle.cudf_job.specs.declared.criteria.Aim.{Aim}
use Rattle.cudf_job.specs.declared.criteria.Sign.{Sign}
use Rattle.cudf_job.specs.declared.criteria.Sign.TheVariants.{Least, Most}
use Rattle.cudf_job.specs.declared.criteria.Count.{Count}
use Rattle.cudf_job.specs.declared.criteria.Count.TheVariants.{Removed, New, Changed, NotUpToDate, UnsatRecommends, Touched}
use Rattle.cudf_job.specs.declared.criteria.Criteria.{Criteria}
use Rattle.cudf_lrat.specs.declared.cnf.Literal.{Literal}
use Rattle.cudf_lrat.specs.Literals.{Assignment, clause_at, is_satisfied_by}
use Rattle.cudf_lrat.specs.Steps.{negated}
use Rattle.cudf_referee.specs.Criteria.{at_most_max, criteria, greatest, versions_of, is_changed, is_new, is_not_up_to_date, is_removed, is_touched, universe, unsatisfied_recommends}
use Rattle.cudf_referee.specs.Proposals.{Proposal, everything, recommended}
use Rattle.cudf_index.specs.Promises.Places.{is_named}
use Rattle.cudf_referee.specs.Solutions.{is_solution}
use Rattle.cudf_cnf.specs.Cnf.{clauses_of, cnf, is_in, is_out, one_of}
use Rattle.cudf_cnf.specs.Laws.{proposed}
use Rattle.cudf_cnf.proofs.LawLemmas.{solution_satisfies}
use Rattle.cudf_better.specs.Better.{Item, all_packages, better_clauses, constraint_by, constraints, had_package, changed_item, changes, counts_true, false_dnf, has_item, true_dnf, item, items, missed_items, names, outdated_item}
use Rattle.cudf_better.specs.Cardinality.{AtMost, lexicographic_clauses}
use Rattle.cudf_better.specs.Encodings.{has_too_many, variables}
use Rattle.cudf_better.proofs.NamesLemmas.{or_parts}
use Rattle.cudf_better.specs.Laws.{BetterSatisfies, RefutedIsBest, are_less, count, holds}
use Rattle.cudf_better.proofs.CardinalityLemmas.{less_satisfies}
use Rattle.cudf_better.proofs.BetterLemmas.{changed_count, count_both, count_map, count_same, false_is, true_is, item_holds, missed_count, new_count, outdated_count, removed_count, touched_count}

-- ---- counts

-- before they are cut to their type
abbrev raw : Proposal → Count → ℕ
raw s Removed = count_by (is_removed s) (names s.problem)
raw s New = count_by (is_new s) (names s.problem)
raw s Changed = count_by (is_changed s) (names s.problem)
raw s NotUpToDate = count_by (is_not_up_to_date s) (names s.problem)
raw s UnsatRecommends = length (unsatisfied_recommends s)
raw s Touched = count_by (is_touched s) (universe s)

count_raw : (s : Proposal) (c : Count) → (count_row c).1 (criteria s) ≡ at_most_max (raw s c)
unfolding criteria
count_raw s Removed = refl
count_raw s New = refl
count_raw s Changed = refl
count_raw s NotUpToDate = refl
count_raw s UnsatRecommends = refl
count_raw s Touched = refl

abbrev counted : Assignment → Count → Item → Bool
counted t c i = cond (counts_true c) (item_holds t i) (not (item_holds t i))

module _ (problem : PlainProblem) (is : Assignment) (distinct : are_distinct (map package_id problem.packages) ≡ true) where
  abbrev s : Proposal
  s = proposed problem is []

  raw_is : (c : Count) → raw s c ≡ count_by (counted is c) (items problem c)
  raw_is Removed = removed_count problem (is_initial problem) is
  raw_is New = new_count problem (is_initial problem) is
  raw_is Changed = changed_count problem is distinct
  raw_is NotUpToDate = outdated_count problem (is_initial problem) is
  raw_is UnsatRecommends = missed_count problem is
  raw_is Touched = touched_count problem is

  -- ---- constraints

  not_not : (a : Bool) → not (not a) ≡ a
  not_not true = refl
  not_not false = refl

  least_count : (c : Count) (n : ℕ) → count is (constraint_by problem Least c n) ≡ count_by (counted is c) (items problem c)
  least_count c n = by (counts_true c)
    where
      by : (b : Bool) → count_by (holds is) (map (cond b true_dnf false_dnf) (items problem c)) ≡ count_by (λ i. cond b (item_holds is i) (not (item_holds is i))) (items problem c)
      by true = count_map (holds is) true_dnf (items problem c) ∙ count_same (λ i. holds is (true_dnf i)) (item_holds is) (true_is is) (items problem c)
      by false = count_map (holds is) false_dnf (items problem c) ∙ count_same (λ i. holds is (false_dnf i)) (λ i. not (item_holds is i)) (false_is is) (items problem c)

  most_count : (c : Count) (n : ℕ) → count is (constraint_by problem Most c n) ≡ count_by (λ i. not (counted is c i)) (items problem c)
  most_count c n = by (counts_true c)
    where
      by : (b : Bool) → count_by (holds is) (map (cond b false_dnf true_dnf) (items problem c)) ≡ count_by (λ i. not (cond b (item_holds is i) (not (item_holds is i)))) (items problem c)
      by true = count_map (holds is) false_dnf (items problem c) ∙ count_same (λ i. holds is (false_dnf i)) (λ i. not (item_holds is i)) (false_is is) (items problem c)
      by false = count_map (holds is) true_dnf (items problem c) ∙ count_same (λ i. holds is (true_dnf i)) (λ i. not (not (item_holds is i))) (λ i. true_is is i ∙ sym (not_not (item_holds is i))) (items problem c)

  count_is : (c : Count) → length (items problem c) ≤ 18446744073709551615 → (count_row c).1 (criteria s) ≡ count_by (counted is c) (items problem c)
  count_is c few =
      let all = count_by-le-length (counted is c) (items problem c) in
      let same = raw_is c in
      let cut = count_raw s c in
      omega arith

criteria_same : (problem : PlainProblem) (is : Assignment) (unknown : List PlainUnknown) → criteria (proposed problem is []) ≡ criteria (proposed problem is unknown)
unfolding criteria
criteria_same problem is unknown = refl

-- ---- one aim after the other

-- an earlier count decides, or it is equal and the others do
abbrev Decides : Sign → ℕ → ℕ → Bool → Type 0
Decides Least m n rest = (m < n) ⊎ ((m ≡ n) × (rest ≡ true))
Decides Most m n rest = (n < m) ⊎ ((m ≡ n) × (rest ≡ true))

kept : (m most : ℕ) (rest : Bool) → (m < most) ⊎ ((m ≤ most) × (rest ≡ true)) → (nat_lt m most || (nat_le m most && rest)) ≡ true
kept m most rest (inl lt) = grind (arith, nat_tests)
kept m most rest (inr (le, more)) = grind (arith, nat_tests)

less : (m n : ℕ) → nat_cmp m n ≡ Less → m < n
less m n h = by (nat_lt m n) refl h
  where
    by : (b : Bool) → nat_lt m n ≡ b → cond b Less (cond (m == n) Equal Greater) ≡ Less → m < n
    by true e h = ltb-true m n e
    by false e h = other (m == n) h
      where
        other : (b : Bool) → cond b Equal Greater ≡ Less → m < n
        other true h = cc
        other false h = cc

module _ (problem : PlainProblem) (is : Assignment) (distinct : are_distinct (map package_id problem.packages) ≡ true) where
  abbrev new : Proposal
  new = proposed problem is []

  one_bound : (sign : Sign) (c : Count) (n : ℕ) (rest : Bool) → length (items problem c) ≤ 18446744073709551615 → Decides sign ((count_row c).1 (criteria new)) n rest
      → (nat_lt (count is (constraint_by problem sign c n)) (constraint_by problem sign c n).bound || (nat_le (count is (constraint_by problem sign c n)) (constraint_by problem sign c n).bound && rest)) ≡ true
  one_bound Least c n rest few h =
      let same = count_is problem is distinct c few in
      let counts = least_count problem is distinct c n in
      kept (count is (constraint_by problem Least c n)) n rest (⊎_elim (λ lt. inl (omega arith)) (λ eq. let e = eq.0 in inr (omega arith, eq.1)) h)
  one_bound Most c n rest few h =
      let same = count_is problem is distinct c few in
      let counts = most_count problem is distinct c n in
      let all = count_both (counted is c) (items problem c) in
      kept (count is (constraint_by problem Most c n)) (length (items problem c) - n) rest (⊎_elim (λ lt. inl (omega arith)) (λ eq. let e = eq.0 in inr (omega arith, eq.1)) h)

  less_from : (aims : List Aim) (d : Criteria) → list_any (has_too_many problem) aims ≡ false → compare aims (criteria new) d ≡ Less
      → are_less is (map (λ aim. constraint_by problem aim.sign aim.count ((count_row aim.count).1 d)) aims) ≡ true
  less_from [] d few h = absurd (cc h)
  less_from (aim ∷ aims) d few h =
      let both = or_parts (has_too_many problem aim) (list_any (has_too_many problem) aims) few in
      let m = (count_row aim.count).1 (criteria new) in
      let n = (count_row aim.count).1 d in
      let rest = are_less is (map (λ aim. constraint_by problem aim.sign aim.count ((count_row aim.count).1 d)) aims) in
      one_bound aim.sign aim.count n rest (ltb-false 18446744073709551615 (length (items problem aim.count)) both.0)
      (by (m == n) refl h (λ less. less_from aims d both.1 less))
    where
      by : (b : Bool) → ((count_row aim.count).1 (criteria new) == (count_row aim.count).1 d) ≡ b
          → option_map_or (aim_cmp (criteria new) d) (cond (not b) (Some aim) (find (differ_in (criteria new) d) aims)) Equal ≡ Less
          → (compare aims (criteria new) d ≡ Less → are_less is (map (λ aim. constraint_by problem aim.sign aim.count ((count_row aim.count).1 d)) aims) ≡ true)
          → Decides aim.sign ((count_row aim.count).1 (criteria new)) ((count_row aim.count).1 d) (are_less is (map (λ aim. constraint_by problem aim.sign aim.count ((count_row aim.count).1 d)) aims))
      by true e h more = equal aim.sign (eqb-true ((count_row aim.count).1 (criteria new)) ((count_row aim.count).1 d) e) (more h)
        where
          equal : (sign : Sign) → (count_row aim.count).1 (criteria new) ≡ (count_row aim.count).1 d → are_less is (map (λ aim. constraint_by problem aim.sign aim.count ((count_row aim.count).1 d)) aims) ≡ true
              → Decides sign ((count_row aim.count).1 (criteria new)) ((count_row aim.count).1 d) (are_less is (map (λ aim. constraint_by problem aim.sign aim.count ((count_row aim.count).1 d)) aims))
          equal Least same rest = inr (same, rest)
          equal Most same rest = inr (same, rest)
      by false e h more = first aim.sign h
        where
          first : (sign : Sign) → sign_cmp sign ((count_row aim.count).1 (criteria new)) ((count_row aim.count).1 d) ≡ Less
              → Decides sign ((count_row aim.count).1 (criteria new)) ((count_row aim.count).1 d) (are_less is (map (λ aim. constraint_by problem aim.sign aim.count ((count_row aim.count).1 d)) aims))
          first Least h = inl (less ((count_row aim.count).1 (criteria new)) ((count_row aim.count).1 d) h)
          first Most h = inl (less ((count_row aim.count).1 d) ((count_row aim.count).1 (criteria new)) h)

-- ---- places

module _ (next : ℕ) where
  abbrev Low : Literal → Type 0
  Low l = l.variable < next

  abbrev LowPlace : Placed → Type 0
  LowPlace q = q.0 < next

  abbrev LowItem : Item → Type 0
  LowItem i = All Low i.some × All Low i.none

  low_one_of : (test : Placed → Bool) (all : List Placed) → All LowPlace all → All Low (one_of test all)
  low_one_of test all h = All-map Low (λ (q : Placed). is_in q.0) (filter test all) (All-filter test LowPlace all h)

  low_changes : (q : Placed) → LowPlace q → Low (changes q)
  low_changes q h = by q.1.installed
    where
      by : (b : Bool) → Low (cond b (is_out q.0) (is_in q.0))
      by true = h
      by false = h

  low_items : (problem : PlainProblem) → All LowPlace (all_packages problem) → (c : Count) → All LowItem (items problem c)
  low_items problem h Removed = All-map LowItem (has_item problem) (filter (had_package problem) (names problem)) (λ k d lt. (low_one_of (is_named (get_or (filter (had_package problem) (names problem)) k d)) (all_packages problem) h, All-nil Low))
  low_items problem h New =
      All-map LowItem (has_item problem) (filter (λ name. not (had_package problem name)) (names problem))
      (λ k d lt. (low_one_of (is_named (get_or (filter (λ name. not (had_package problem name)) (names problem)) k d)) (all_packages problem) h, All-nil Low))
  low_items problem h Changed =
      All-map LowItem (changed_item problem) (names problem)
      (λ k d lt.
      let own = filter (is_named (get_or (names problem) k d)) (all_packages problem) in
      (All-map Low changes own (All-weaker LowPlace (λ q. Low (changes q)) low_changes own (All-filter (is_named (get_or (names problem) k d)) LowPlace (all_packages problem) h)), All-nil Low))
  low_items problem h NotUpToDate =
      All-filter (λ (i : Item). not (is_empty i.some)) LowItem (map (outdated_item problem) (names problem))
      (All-map LowItem (outdated_item problem) (names problem)
      (λ k d lt.
      let name = get_or (names problem) k d in
      let own = All-filter (is_named name) LowPlace (all_packages problem) h in
      (low_one_of (λ q. not (q.1.version == greatest (versions_of name (all_packages problem)))) (filter (is_named name) (all_packages problem)) own, low_one_of (λ q. q.1.version == greatest (versions_of name (all_packages problem))) (filter (is_named name) (all_packages problem)) own)))
  low_items problem h UnsatRecommends = each (all_packages problem) h
    where
      each : (all : List Placed) → All LowPlace all → All LowItem (flat_map (missed_items problem) all)
      each [] low = All-nil LowItem
      each (p ∷ all) low =
          All-append LowItem (missed_items problem p) (flat_map (missed_items problem) all)
          (All-map LowItem (λ clause. item (is_in p.0 ∷ []) (one_of (meets_clause_alone clause) (all_packages problem))) (filter (λ clause. not (meets_clause_alone clause p)) (recommended (everything problem) p))
          (λ k d lt. (All-cons Low (is_in p.0) [] (All-head LowPlace p all low) (All-nil Low), low_one_of (meets_clause_alone (get_or (filter (λ clause. not (meets_clause_alone clause p)) (recommended (everything problem) p)) k d)) (all_packages problem) h)))
          (each all (All-tail LowPlace p all low))
  low_items problem h Touched =
      All-map LowItem (λ p. item (changes p ∷ []) []) (all_packages problem)
      (All-weaker LowPlace (λ p. LowItem (item (changes p ∷ []) [])) (λ p low. (All-cons Low (changes p) [] (low_changes p low) (All-nil Low), All-nil Low)) (all_packages problem) h)

  low_negated : (ls : List Literal) → All Low ls → All Low (map negated ls)
  low_negated ls h = All-map Low negated ls h

  low_held : (i : Item) → LowItem i → All (All Low) (true_dnf i)
  low_held i h = All-map (All Low) (λ (l : Literal). l ∷ map negated i.none) i.some (All-weaker Low (λ l. All Low (l ∷ map negated i.none)) (λ l low. All-cons Low l (map negated i.none) low (low_negated i.none h.1)) i.some h.0)

  low_failed : (i : Item) → LowItem i → All (All Low) (false_dnf i)
  low_failed i h =
      All-cons (All Low) (map negated i.some) (map (λ (l : Literal). l ∷ []) i.none) (low_negated i.some h.0)
      (All-map (All Low) (λ (l : Literal). l ∷ []) i.none (All-weaker Low (λ l. All Low (l ∷ [])) (λ l low. All-cons Low l [] low (All-nil Low)) i.none h.1))

  low_definitions : (b : Bool) (xs : List Item) → All LowItem xs → All (All (All Low)) (map (cond b true_dnf false_dnf) xs)
  low_definitions true xs h = All-map (All (All Low)) true_dnf xs (All-weaker LowItem (λ i. All (All Low) (true_dnf i)) low_held xs h)
  low_definitions false xs h = All-map (All (All Low)) false_dnf xs (All-weaker LowItem (λ i. All (All Low) (false_dnf i)) low_failed xs h)

  low_other : (b : Bool) (xs : List Item) → All LowItem xs → All (All (All Low)) (map (cond b false_dnf true_dnf) xs)
  low_other true xs h = low_definitions false xs h
  low_other false xs h = low_definitions true xs h

  low_bound : (problem : PlainProblem) → All LowPlace (all_packages problem) → (sign : Sign) (c : Count) (n : ℕ) → All (All (All Low)) (constraint_by problem sign c n).formulas
  low_bound problem h Least c n = low_definitions (counts_true c) (items problem c) (low_items problem h c)
  low_bound problem h Most c n = low_other (counts_true c) (items problem c) (low_items problem h c)

low_places : (n : ℕ) (xs : List PlainPackage) → All (λ (q : Placed). q.0 < n + length xs) (enumerate_from n xs)
low_places n [] = All-nil (λ (q : Placed). q.0 < n + 0)
low_places n (x ∷ xs) =
    let P : Placed → Type 0 = λ q. q.0 < n + suc (length xs) in
    let end : n + 1 + length xs ≡ n + suc (length xs) = omega arith in
    All-cons P (n, x) (enumerate_from (n + 1) xs) (omega arith) (subst (λ (m : ℕ). All (λ (q : Placed). q.0 < m) (enumerate_from (n + 1) xs)) end (low_places (n + 1) xs))

-- ---- the law

members_same : (t u : Assignment) (n : ℕ) (xs : List PlainPackage) → ((place : ℕ) → place < n + length xs → t place ≡ u place) → filter (λ (q : Placed). t q.0) (enumerate_from n xs) ≡ filter (λ (q : Placed). u q.0) (enumerate_from n xs)
members_same t u n [] same = refl
members_same t u n (x ∷ xs) same =
    let more = members_same t u (n + 1) xs (λ place lt. same place (omega arith)) in
    λ i. cond (same n (omega arith) i) ((n, x) ∷ more i) (more i)

and_last : (a b : Bool) → (a && b) ≡ true → b ≡ true
and_last true b h = h
and_last false b h = cc

pub better_satisfies : BetterSatisfies
unfolding better_clauses
better_satisfies problem counts aims distinct small is unknown solution better =
    let next = length problem.packages + 1 in
    let low : All (λ (q : Placed). q.0 < next) (all_packages problem) = subst (λ (m : ℕ). All (λ (q : Placed). q.0 < m) (enumerate_from 1 problem.packages)) (omega arith) (low_places 1 problem.packages) in
    let few = (or_parts (nat_lt 4294967295 (length (better_clauses problem counts aims))) (list_any (has_too_many problem) aims)
    (or_parts (nat_lt 2147483647 (variables problem counts aims)) (nat_lt 4294967295 (length (better_clauses problem counts aims)) || list_any (has_too_many problem) aims) small).1).1 in
    let fewer = less_from problem is distinct aims counts few (same_criteria ∙ better) in
    let P : AtMost → Type 0 = λ b. All (All (All (λ (l : Literal). l.variable < next))) b.formulas in
    let f = less_satisfies next is (constraints problem counts aims) (All-map P (λ (aim : Aim). constraint_by problem aim.sign aim.count ((count_row aim.count).1 counts)) aims (λ k d lt. low_bound next problem low (get_or aims k d).sign (get_or aims k d).count ((count_row (get_or aims k d).count).1 counts))) fewer in
    let same = members_same f.extended is 1 problem.packages (λ place lt. f.same place (omega arith)) in
    let solves : is_solution (proposed problem f.extended unknown) ≡ true =
    (λ i. is_solution (record { problem = problem; initial = members (is_initial problem) problem.packages; proposed = same i; unknown = unknown })) ∙ solution in
    let rules = and_last (is_empty unknown) (list_all (is_satisfied_by f.extended) (clauses_of (cnf problem))) (sym (solution_satisfies problem f.extended unknown) ∙ solves) in
    record {
      extended = f.extended;
      same = f.same;
      all = All-append (λ clause. IsTrue (is_satisfied_by f.extended clause)) (clauses_of (cnf problem)) (lexicographic_clauses next [] (constraints problem counts aims)) (AllPass-from_list_all (is_satisfied_by f.extended) (clauses_of (cnf problem)) rules) f.all;
    }
  where
    same_criteria : compare aims (criteria (proposed problem is [])) counts ≡ compare aims (criteria (proposed problem is unknown)) counts
    same_criteria = ap (λ c. compare aims c counts) (criteria_same problem is unknown)

pub refuted_is_best : RefutedIsBest
refuted_is_best problem counts aims distinct small core refuted is unknown solution better =
    let clauses = better_clauses problem counts aims in
    let f = better_satisfies problem counts aims distinct small is unknown solution better in
    refuted.1 f.extended
    (All-map (λ clause. IsTrue (is_satisfied_by f.extended clause)) (clause_at clauses) core
    (λ k d lt. let inside = refuted.0 k d lt in f.all (get_or core k d - 1) [] (omega arith)))
