-- Counts of a proposed status as counts of items.
use Rattle.std.proofs.Common.{◌≡◌, ℕ, zero, suc, ◌+◌, ◌<◌, ◌≤◌, ◌==◌, Bool, true, false, not, ◌&&◌, ◌||◌, cond, List, [], ◌∷◌, ◌++◌, length, map, filter, bytes_eq, refl, sym, subst, ap, ◌∙◌, arith}
use Rattle.std.specs.Prelude.{slice_get, Some, get_or, take}
use Rattle.std.proofs.lemmas.List.{get_or_default, length-append, length-map, map-id, take_all}
use Rattle.std.proofs.lemmas.Option.{slice_get-get_or}
use Rattle.cudf_value.specs.Formulas.{PlainAtom, truth_atom, falsehood_atom, named}
use Rattle.cudf_problem.specs.Promises.Packages.{are_distinct}
use Rattle.cudf_problem.specs.Statuses.{is_initial}
use Rattle.cudf_index.proofs.SatisfactionLemmas.{member_alone}
use Rattle.cudf_referee.specs.Working.Standings.{differ, standing_of}
use Rattle.cudf_referee.proofs.GroundLemmas.{held-at, initial-at}
use Rattle.cudf_referee.proofs.NameLemmas.{same_text}
use Rattle.cudf_referee.proofs.RecommendLemmas.{nothing}
use Rattle.cudf_referee.proofs.StandingLemmas.{next_fresh, next_places, standing-other, standing-own}
use Rattle.std.specs.List.{list_any, list_all, count_by, flat_map, enumerate_from}
use Rattle.std.proofs.lemmas.List.Folds.{list_any-append}
use Rattle.std.proofs.lemmas.List.Sums.{sum_by-cons, sum_by-append}
use Rattle.cudf_problem.specs.Documents.{is_empty}
use Rattle.cudf_problem.specs.Universe.{PlainPackage, PlainProblem, package_id}
use Rattle.cudf_problem.proofs.ListLemmas.{list_any-map}
use Rattle.cudf_index.specs.Satisfaction.{Placed, meets_alone, meets_clause_alone, satisfies_clause}
use Rattle.cudf_index.proofs.SearchLemmas.{list_any-filter}
use Rattle.cudf_lrat.specs.declared.cnf.Literal.{Literal}
use Rattle.cudf_better.specs.Better.{Item, changed_item, changes, false_dnf, has_item, true_dnf, item, missed_items, names, outdated_item}
use Rattle.cudf_referee.specs.Criteria.{greatest, is_changed, is_touched, unsatisfied_recommends, is_new, is_not_up_to_date, is_number_among, is_removed, universe, versions_of}
use Rattle.cudf_referee.specs.Violations.{has_package}
use Rattle.cudf_better.specs.Laws.{holds}
use Rattle.cudf_lrat.specs.Literals.{Assignment, is_true_in}
use Rattle.cudf_lrat.specs.Steps.{negated}
use Rattle.cudf_index.specs.Promises.Places.{is_named}
use Rattle.cudf_cnf.specs.Cnf.{is_in, is_out, one_of}
use Rattle.cudf_referee.specs.Proposals.{Proposal, holds_place, proposal, recommended}

-- ---- truth values

pub or_false : (a : Bool) → (a || false) ≡ a
or_false true = refl
or_false false = refl

and_true : (a : Bool) → (a && true) ≡ a
and_true true = refl
and_true false = refl

pub and_swap : (a b : Bool) → (a && b) ≡ (b && a)
and_swap true b = sym (and_true b)
and_swap false true = refl
and_swap false false = refl

pub any_same : {A : Type 0} (p q : A → Bool) → ((x : A) → p x ≡ q x) → (xs : List A) → list_any p xs ≡ list_any q xs
any_same p q same xs = ap (λ test. list_any test xs) (λ i x. same x i)

any_and : {A : Type 0} (b : Bool) (p : A → Bool) (xs : List A) → list_any (λ x. p x && b) xs ≡ (list_any p xs && b)
any_and b p [] = refl
any_and b p (x ∷ xs) = ap (λ c. (p x && b) || c) (any_and b p xs) ∙ by (p x) b (list_any p xs)
  where
    by : (a b c : Bool) → ((a && b) || (c && b)) ≡ ((a || c) && b)
    by true true c = refl
    by true false true = refl
    by true false false = refl
    by false b c = refl

-- ---- items

abbrev pub item_holds : Assignment → Item → Bool
item_holds t i = list_any (is_true_in t) i.some && not (list_any (is_true_in t) i.none)

negated_is : (t : Assignment) (l : Literal) → is_true_in t (negated l) ≡ not (is_true_in t l)
negated_is t l = by l.positive (t l.variable)
  where
    by : (positive b : Bool) → cond (not positive) b (not b) ≡ not (cond positive b (not b))
    by true b = refl
    by false true = refl
    by false false = refl

none_true : (t : Assignment) (ls : List Literal) → list_all (is_true_in t) (map negated ls) ≡ not (list_any (is_true_in t) ls)
none_true t [] = refl
none_true t (l ∷ ls) = (λ i. negated_is t l i && none_true t ls i) ∙ by (is_true_in t l) (list_any (is_true_in t) ls)
  where
    by : (a b : Bool) → (not a && not b) ≡ not (a || b)
    by true b = refl
    by false b = refl

pub true_is : (t : Assignment) (i : Item) → holds t (true_dnf i) ≡ item_holds t i
true_is t i =
    list_any-map (λ (l : Literal). l ∷ map negated i.none) (list_all (is_true_in t)) i.some
    ∙ any_and (list_all (is_true_in t) (map negated i.none)) (is_true_in t) i.some
    ∙ ap (λ b. list_any (is_true_in t) i.some && b) (none_true t i.none)

pub false_is : (t : Assignment) (i : Item) → holds t (false_dnf i) ≡ not (item_holds t i)
false_is t i =
    (λ j. none_true t i.some j || (list_any-map (λ (l : Literal). l ∷ []) (list_all (is_true_in t)) i.none ∙ any_same (λ (l : Literal). is_true_in t l && true) (is_true_in t) (λ l. and_true (is_true_in t l)) i.none) j)
    ∙ by (list_any (is_true_in t) i.some) (list_any (is_true_in t) i.none)
  where
    by : (a b : Bool) → (not a || b) ≡ not (a && not b)
    by true true = refl
    by true false = refl
    by false b = refl

-- ---- counting

pub count_cons : {A : Type 0} (p : A → Bool) (x : A) (xs : List A) → count_by p (x ∷ xs) ≡ cond (p x) 1 0 + count_by p xs
count_cons p x xs = sum_by-cons (λ y. cond (p y) 1 0) x xs

pub count_same : {A : Type 0} (p q : A → Bool) → ((x : A) → p x ≡ q x) → (xs : List A) → count_by p xs ≡ count_by q xs
count_same p q same xs = ap (λ test. count_by test xs) (λ i x. same x i)

pub count_map : {A B : Type 0} (p : B → Bool) (f : A → B) (xs : List A) → count_by p (map f xs) ≡ count_by (λ x. p (f x)) xs
count_map p f [] = refl
count_map p f (x ∷ xs) = count_cons p (f x) (map f xs) ∙ ap (λ n. cond (p (f x)) 1 0 + n) (count_map p f xs) ∙ sym (count_cons (λ y. p (f y)) x xs)

pub count_filter : {A : Type 0} (p q : A → Bool) (xs : List A) → count_by p (filter q xs) ≡ count_by (λ x. q x && p x) xs
count_filter p q [] = refl
count_filter {A} p q (x ∷ xs) = by (q x) refl (count_filter p q xs)
  where
    zero_more : (n : ℕ) → n ≡ 0 + n
    zero_more n = omega arith

    by : (b : Bool) → q x ≡ b → count_by p (filter q xs) ≡ count_by (λ y. q y && p y) xs → count_by p (cond b (x ∷ filter q xs) (filter q xs)) ≡ count_by (λ y. q y && p y) (x ∷ xs)
    by true e more = count_cons p x (filter q xs) ∙ (λ i. cond (sym e i && p x) 1 0 + more i) ∙ sym (count_cons (λ y. q y && p y) x xs)
    by false e more = more ∙ zero_more (count_by (λ y. q y && p y) xs) ∙ (λ i. cond (sym e i && p x) 1 0 + count_by (λ y. q y && p y) xs) ∙ sym (count_cons (λ y. q y && p y) x xs)

pub count_both : {A : Type 0} (p : A → Bool) (xs : List A) → count_by p xs + count_by (λ x. not (p x)) xs ≡ length xs
count_both p [] = omega arith
count_both {A} p (x ∷ xs) = by (p x) (count_cons p x xs) (count_cons (λ y. not (p y)) x xs) (count_both p xs)
  where
    by : (b : Bool) → count_by p (x ∷ xs) ≡ cond b 1 0 + count_by p xs → count_by (λ y. not (p y)) (x ∷ xs) ≡ cond (not b) 1 0 + count_by (λ y. not (p y)) xs
        → count_by p xs + count_by (λ y. not (p y)) xs ≡ length xs → count_by p (x ∷ xs) + count_by (λ y. not (p y)) (x ∷ xs) ≡ suc (length xs)
    by true e f g = omega arith
    by false e f g = omega arith

-- ---- names

-- the packages at the true places
abbrev installed : (ℕ → Bool) → List Placed → List Placed
installed is all = filter (λ q. is q.0) all

installed_any : (is : ℕ → Bool) (test : Placed → Bool) (all : List Placed) → list_any test (installed is all) ≡ list_any (λ q. is q.0 && test q) all
installed_any is test all = list_any-filter test (λ q. is q.0) all

one_of_any : (is : ℕ → Bool) (test : Placed → Bool) (all : List Placed) → list_any (is_true_in is) (one_of test all) ≡ list_any (λ q. is q.0 && test q) all
one_of_any is test all =
    list_any-map (λ q. is_in q.0) (is_true_in is) (filter test all)
    ∙ list_any-filter (λ (q : Placed). is q.0) test all
    ∙ any_same (λ (q : Placed). test q && is q.0) (λ q. is q.0 && test q) (λ q. and_swap (test q) (is q.0)) all

module _ (problem : PlainProblem) (was is : ℕ → Bool) where
  abbrev s : Proposal
  s = proposal problem was is []

  has_is : (name : List ℕ) → item_holds is (has_item problem name) ≡ has_package s.proposed name
  has_is name = and_true (list_any (is_true_in is) (one_of (is_named name) (universe s))) ∙ one_of_any is (is_named name) (universe s) ∙ sym (installed_any is (is_named name) (universe s))

  pub removed_count : count_by (is_removed s) (names problem) ≡ count_by (λ i. not (item_holds is i)) (map (has_item problem) (filter (has_package s.initial) (names problem)))
  removed_count =
      count_same (is_removed s) (λ name. has_package s.initial name && not (item_holds is (has_item problem name))) (λ name. ap (λ b. has_package s.initial name && not b) (sym (has_is name))) (names problem)
      ∙ sym (count_filter (λ name. not (item_holds is (has_item problem name))) (has_package s.initial) (names problem))
      ∙ sym (count_map (λ i. not (item_holds is i)) (has_item problem) (filter (has_package s.initial) (names problem)))

  pub new_count : count_by (is_new s) (names problem) ≡ count_by (item_holds is) (map (has_item problem) (filter (λ name. not (has_package s.initial name)) (names problem)))
  new_count =
      count_same (is_new s) (λ name. not (has_package s.initial name) && item_holds is (has_item problem name))
      (λ name. and_swap (has_package s.proposed name) (not (has_package s.initial name)) ∙ ap (λ b. not (has_package s.initial name) && b) (sym (has_is name))) (names problem)
      ∙ sym (count_filter (λ name. item_holds is (has_item problem name)) (λ name. not (has_package s.initial name)) (names problem))
      ∙ sym (count_map (item_holds is) (has_item problem) (filter (λ name. not (has_package s.initial name)) (names problem)))

  -- ---- not up to date

  abbrev latest : List ℕ → Placed → Bool
  latest name q = q.1.version == greatest (versions_of name (universe s))

  abbrev own : List ℕ → List Placed
  own name = filter (is_named name) (universe s)

  either_version : (name : List ℕ) (ps : List Placed) → list_any (λ q. is q.0) ps ≡ (list_any (λ q. is q.0 && not (latest name q)) ps || list_any (λ q. is q.0 && latest name q) ps)
  either_version name [] = refl
  either_version name (q ∷ ps) = ap (λ b. is q.0 || b) (either_version name ps) ∙ by (is q.0) (latest name q) (list_any (λ q. is q.0 && not (latest name q)) ps) (list_any (λ q. is q.0 && latest name q) ps)
    where
      by : (a b c d : Bool) → (a || (c || d)) ≡ (((a && not b) || c) || ((a && b) || d))
      by true true true d = refl
      by true true false d = refl
      by true false c d = refl
      by false b c d = refl

  empty_any : (test : Placed → Bool) (ps : List Placed) → is_empty (one_of test ps) ≡ true → list_any (λ q. is q.0 && test q) ps ≡ false
  empty_any test [] h = refl
  empty_any test (q ∷ ps) h = by (test q) refl h (empty_any test ps)
    where
      by : (b : Bool) → test q ≡ b → is_empty (map (λ (r : Placed). is_in r.0) (cond b (q ∷ filter test ps) (filter test ps))) ≡ true
          → (is_empty (one_of test ps) ≡ true → list_any (λ q. is q.0 && test q) ps ≡ false) → ((is q.0 && test q) || list_any (λ q. is q.0 && test q) ps) ≡ false
      by true e h more = cc
      by false e h more = ap (λ b. (is q.0 && b) || list_any (λ q. is q.0 && test q) ps) e ∙ (λ i. (and_swap (is q.0) false i) || list_any (λ q. is q.0 && test q) ps) ∙ more h

  outdated_is : (name : List ℕ) → is_not_up_to_date s name ≡ (not (is_empty (outdated_item problem name).some) && item_holds is (outdated_item problem name))
  outdated_is name =
      let old = list_any (λ q. is q.0 && not (latest name q)) (own name) in
      let top = list_any (λ q. is q.0 && latest name q) (own name) in
      (λ i. (swap_filters (universe s) ∙ either_version name (own name)) i && not (among i))
      ∙ by (is_empty (one_of (λ q. not (latest name q)) (own name))) old top refl
      ∙ (λ i. not (is_empty (one_of (λ q. not (latest name q)) (own name))) && (sym (one_of_any is (λ q. not (latest name q)) (own name)) i && not (sym (one_of_any is (latest name) (own name)) i)))
    where
      -- of the name and installed, either way round
      swap_filters : (all : List Placed) → list_any (is_named name) (installed is all) ≡ list_any (λ q. is q.0) (filter (is_named name) all)
      swap_filters all =
          installed_any is (is_named name) all ∙ any_same (λ (q : Placed). is q.0 && is_named name q) (λ q. is_named name q && is q.0) (λ q. and_swap (is q.0) (is_named name q)) all
          ∙ sym (list_any-filter (λ (q : Placed). is q.0) (is_named name) all)

      among : is_number_among (versions_of name s.proposed) (greatest (versions_of name (universe s))) ≡ list_any (λ q. is q.0 && latest name q) (own name)
      among =
          list_any-map (λ (q : Placed). q.1.version) (λ m. m == greatest (versions_of name (universe s))) (filter (is_named name) s.proposed)
          ∙ list_any-filter (latest name) (is_named name) s.proposed
          ∙ installed_any is (λ q. is_named name q && latest name q) (universe s)
          ∙ any_same (λ (q : Placed). is q.0 && (is_named name q && latest name q)) (λ q. is_named name q && (is q.0 && latest name q)) (λ q. turn (is q.0) (is_named name q) (latest name q)) (universe s)
          ∙ sym (list_any-filter (λ (q : Placed). is q.0 && latest name q) (is_named name) (universe s))
        where
          turn : (a b c : Bool) → (a && (b && c)) ≡ (b && (a && c))
          turn true b c = refl
          turn false true c = refl
          turn false false c = refl

      by : (e o t : Bool) → is_empty (one_of (λ q. not (latest name q)) (own name)) ≡ e → ((list_any (λ q. is q.0 && not (latest name q)) (own name) || t) && not t) ≡ (not e && (list_any (λ q. is q.0 && not (latest name q)) (own name) && not t))
      by true o t h = (λ i. (empty_any (λ q. not (latest name q)) (own name) h i || t) && not t) ∙ never t
        where
          never : (t : Bool) → (t && not t) ≡ false
          never true = refl
          never false = refl
      by false o t h = apart (list_any (λ q. is q.0 && not (latest name q)) (own name)) t
        where
          apart : (a t : Bool) → ((a || t) && not t) ≡ (a && not t)
          apart true t = refl
          apart false true = refl
          apart false false = refl

  pub outdated_count : count_by (is_not_up_to_date s) (names problem) ≡ count_by (item_holds is) (filter (λ i. not (is_empty i.some)) (map (outdated_item problem) (names problem)))
  outdated_count =
      count_same (is_not_up_to_date s) (λ name. not (is_empty (outdated_item problem name).some) && item_holds is (outdated_item problem name)) outdated_is (names problem)
      ∙ sym (count_map (λ i. not (is_empty i.some) && item_holds is i) (outdated_item problem) (names problem))
      ∙ sym (count_filter (item_holds is) (λ (i : Item). not (is_empty i.some)) (map (outdated_item problem) (names problem)))

-- ---- by places

any_at : (p q : Placed → Bool) (n : ℕ) (xs : List PlainPackage) → ((i : ℕ) (d : PlainPackage) → i < length xs → p (n + i, get_or xs i d) ≡ q (n + i, get_or xs i d))
    → list_any p (enumerate_from n xs) ≡ list_any q (enumerate_from n xs)
any_at p q n [] same = refl
any_at p q n (x ∷ xs) same =
    let here : p (n, x) ≡ q (n, x) = subst (λ (m : ℕ). p (m, x) ≡ q (m, x)) (omega arith) (same 0 x (omega arith)) in
    λ j. here j || any_at p q (n + 1) xs (λ i d lt. subst (λ (m : ℕ). p (m, get_or xs i d) ≡ q (m, get_or xs i d)) (omega arith) (same (suc i) d (omega arith))) j

count_at : (p q : Placed → Bool) (n : ℕ) (xs : List PlainPackage) → ((i : ℕ) (d : PlainPackage) → i < length xs → p (n + i, get_or xs i d) ≡ q (n + i, get_or xs i d))
    → count_by p (enumerate_from n xs) ≡ count_by q (enumerate_from n xs)
count_at p q n [] same = refl
count_at p q n (x ∷ xs) same =
    let here : p (n, x) ≡ q (n, x) = subst (λ (m : ℕ). p (m, x) ≡ q (m, x)) (omega arith) (same 0 x (omega arith)) in
    count_cons p (n, x) (enumerate_from (n + 1) xs)
    ∙ (λ j. cond (here j) 1 0 + count_at p q (n + 1) xs (λ i d lt. subst (λ (m : ℕ). p (m, get_or xs i d) ≡ q (m, get_or xs i d)) (omega arith) (same (suc i) d (omega arith))) j)
    ∙ sym (count_cons q (n, x) (enumerate_from (n + 1) xs))

-- what is made of the packages that pass, and what is counted of all
made_at : {A B : Type 0} (is : ℕ → Bool) (f : Placed → List A) (g : Placed → List B) (test : B → Bool) (n : ℕ) (xs : List PlainPackage)
    → ((i : ℕ) (d : PlainPackage) → i < length xs → cond (is (n + i)) (length (f (n + i, get_or xs i d))) 0 ≡ count_by test (g (n + i, get_or xs i d)))
    → length (flat_map f (filter (λ q. is q.0) (enumerate_from n xs))) ≡ count_by test (flat_map g (enumerate_from n xs))
made_at is f g test n [] same = refl
made_at is f g test n (x ∷ xs) same =
    let here : cond (is n) (length (f (n, x))) 0 ≡ count_by test (g (n, x)) = subst (λ (m : ℕ). cond (is m) (length (f (m, x))) 0 ≡ count_by test (g (m, x))) (omega arith) (same 0 x (omega arith)) in
    by (is n) here (made_at is f g test (n + 1) xs (λ i d lt. subst (λ (m : ℕ). cond (is m) (length (f (m, get_or xs i d))) 0 ≡ count_by test (g (m, get_or xs i d))) (omega arith) (same (suc i) d (omega arith))))
  where
    by : (b : Bool) → cond b (length (f (n, x))) 0 ≡ count_by test (g (n, x)) → length (flat_map f (filter (λ q. is q.0) (enumerate_from (n + 1) xs))) ≡ count_by test (flat_map g (enumerate_from (n + 1) xs))
        → length (flat_map f (cond b ((n, x) ∷ filter (λ q. is q.0) (enumerate_from (n + 1) xs)) (filter (λ q. is q.0) (enumerate_from (n + 1) xs)))) ≡ count_by test (g (n, x) ++ flat_map g (enumerate_from (n + 1) xs))
    by true here more = length-append (f (n, x)) (flat_map f (filter (λ q. is q.0) (enumerate_from (n + 1) xs))) ∙ (λ i. here i + more i) ∙ sym (sum_by-append (λ y. cond (test y) 1 0) (g (n, x)) (flat_map g (enumerate_from (n + 1) xs)))
    by false here more = more ∙ zero_more (count_by test (flat_map g (enumerate_from (n + 1) xs))) ∙ (λ i. here i + count_by test (flat_map g (enumerate_from (n + 1) xs))) ∙ sym (sum_by-append (λ y. cond (test y) 1 0) (g (n, x)) (flat_map g (enumerate_from (n + 1) xs)))
      where
        zero_more : (n : ℕ) → n ≡ 0 + n
        zero_more n = omega arith

read_at : (xs : List PlainPackage) (i : ℕ) (d : PlainPackage) → i < length xs → slice_get xs i ≡ Some (get_or xs i d)
read_at xs i d lt = slice_get-get_or xs i d lt

-- a test that one passes
one_at : (test : Placed → Bool) (n : ℕ) (xs : List PlainPackage) (i : ℕ) (d : PlainPackage) → i < length xs → test (n + i, get_or xs i d) ≡ true → list_any test (enumerate_from n xs) ≡ true
one_at test n [] i d lt h = absurd (omega arith)
one_at test n (x ∷ xs) zero d lt h = ap (λ b. b || list_any test (enumerate_from (n + 1) xs)) (subst (λ (m : ℕ). test (m, x) ≡ true) (omega arith) h)
one_at test n (x ∷ xs) (suc i) d lt h =
    ap (λ b. test (n, x) || b) (one_at test (n + 1) xs i d (omega arith) (subst (λ (m : ℕ). test (m, get_or xs i d) ≡ true) (omega arith) h)) ∙ or_true (test (n, x))
  where
    or_true : (a : Bool) → (a || true) ≡ true
    or_true true = refl
    or_true false = refl

-- a status satisfies a conjunct that needs no package, or one that one of its packages alone does
conjunct_alone : (status : List Placed) (clause : List PlainAtom) → satisfies_clause status clause ≡ (satisfies_clause [] clause || list_any (meets_clause_alone clause) status)
conjunct_alone status [] = none status
  where
    none : (status : List Placed) → false ≡ list_any (λ p. false) status
    none [] = refl
    none (p ∷ status) = none status
conjunct_alone status (truth_atom ∷ atoms) = refl
conjunct_alone status (falsehood_atom ∷ atoms) = conjunct_alone status atoms
conjunct_alone status (named v ∷ atoms) =
    (λ i. member_alone status v i || conjunct_alone status atoms i)
    ∙ by (list_any (meets_alone v) status) (satisfies_clause [] atoms) (list_any (meets_clause_alone atoms) status)
    ∙ ap (λ b. satisfies_clause [] atoms || b) (joined status)
  where
    by : (a b c : Bool) → (a || (b || c)) ≡ (b || (a || c))
    by true true c = refl
    by true false c = refl
    by false b c = refl

    joined : (status : List Placed) → (list_any (meets_alone v) status || list_any (meets_clause_alone atoms) status) ≡ list_any (λ p. meets_alone v p || meets_clause_alone atoms p) status
    joined [] = refl
    joined (p ∷ status) = pull (meets_alone v p) (list_any (meets_alone v) status) (meets_clause_alone atoms p) (list_any (meets_clause_alone atoms) status) ∙ ap (λ b. (meets_alone v p || meets_clause_alone atoms p) || b) (joined status)
      where
        pull : (a b c d : Bool) → ((a || b) || (c || d)) ≡ ((a || c) || (b || d))
        pull true b c d = refl
        pull false true true d = refl
        pull false true false d = refl
        pull false false c d = refl

module _ (problem : PlainProblem) (is : ℕ → Bool) where
  abbrev start : Proposal
  start = proposal problem (is_initial problem) is []

  abbrev ps : List PlainPackage
  ps = problem.packages

  was_at : (i : ℕ) (d : PlainPackage) → i < length ps → is_initial problem (1 + i) ≡ (get_or ps i d).installed
  was_at i d lt = ap (is_initial problem) {x = 1 + i} {y = i + 1} (omega arith) ∙ initial-at problem i (get_or ps i d) (read_at ps i d lt)

  changes_at : (i : ℕ) (d : PlainPackage) → i < length ps → is_true_in is (changes (1 + i, get_or ps i d)) ≡ differ (is_initial problem (1 + i)) (is (1 + i))
  changes_at i d lt = by (get_or ps i d).installed ∙ ap (λ b. differ b (is (1 + i))) (sym (was_at i d lt))
    where
      by : (b : Bool) → is_true_in is (cond b (is_out (1 + i)) (is_in (1 + i))) ≡ differ b (is (1 + i))
      by true = refl
      by false = refl

  -- ---- touched

  pub touched_count : count_by (is_touched start) (universe start) ≡ count_by (item_holds is) (map (λ p. item (changes p ∷ []) []) (universe start))
  touched_count =
      count_at (is_touched start) (λ p. item_holds is (item (changes p ∷ []) [])) 1 ps
      (λ i d lt.
      let number : 1 + i ≡ i + 1 = omega arith in
      (λ j. differ ((ap (holds_place start.initial) number ∙ held-at (is_initial problem) ps i lt ∙ ap (is_initial problem) (sym number)) j) ((ap (holds_place start.proposed) number ∙ held-at is ps i lt ∙ ap is (sym number)) j))
      ∙ sym (and_true (is_true_in is (changes (1 + i, get_or ps i d)) || false) ∙ or_false (is_true_in is (changes (1 + i, get_or ps i d))) ∙ changes_at i d lt))
      ∙ sym (count_map (item_holds is) (λ p. item (changes p ∷ []) []) (universe start))

  -- ---- changed

  abbrev differs : List ℕ → Placed → Bool
  differs name q = is_named name q && differ (is_initial problem q.0) (is q.0)

  abbrev has_changed : List Placed → List ℕ → Bool
  has_changed all name = (standing_of (is_initial problem) is all name).is_changed

  changed_step : (before : List Placed) (q : Placed) (name : List ℕ) → is_number_among (versions_of q.1.name before) q.1.version ≡ false
      → has_changed before name ≡ list_any (differs name) before → (b : Bool) → bytes_eq q.1.name name ≡ b → has_changed (before ++ q ∷ []) name ≡ list_any (differs name) (before ++ q ∷ [])
  changed_step before q name fresh so_far b e =
      by b e ∙ (λ j. so_far j || (ap (λ c. c && differ (is_initial problem q.0) (is q.0)) (sym e) ∙ sym (or_false (differs name q))) j) ∙ sym (list_any-append (differs name) before (q ∷ []))
    where
      by : (b : Bool) → bytes_eq q.1.name name ≡ b → has_changed (before ++ q ∷ []) name ≡ (has_changed before name || (b && differ (is_initial problem q.0) (is q.0)))
      by true e =
          subst (λ (n : List ℕ). has_changed (before ++ q ∷ []) n ≡ (has_changed before n || differ (is_initial problem q.0) (is q.0))) (same_text q.1.name name e)
          (λ j. (standing-own (is_initial problem) is before q fresh j).is_changed)
      by false e = (λ j. (standing-other (is_initial problem) is before q name e j).is_changed) ∙ sym (or_false (has_changed before name))

  -- the first packages
  abbrev first : ℕ → List Placed
  first i = enumerate_from 1 (map (λ (p : PlainPackage). p) (take i ps))

  changed_upto : are_distinct (map package_id ps) ≡ true → (i : ℕ) → i ≤ length ps → (name : List ℕ) → has_changed (first i) name ≡ list_any (differs name) (first i)
  changed_upto distinct zero le name = refl
  changed_upto distinct (suc i) le name =
      let p = get_or ps i nothing in
      let here : p ≡ get_or ps i p = sym (get_or_default ps i p nothing (omega arith)) in
      let next = next_places (λ (p : PlainPackage). p) ps i p (omega arith) here in
      let fresh = next_fresh (λ (p : PlainPackage). p) ps ps i p (map-id ps) distinct (omega arith) here in
      let number : i + 1 ≡ suc i = omega arith in
      subst (λ (all : List Placed). has_changed all name ≡ list_any (differs name) all) (next ∙ ap first number)
      (changed_step (first i) (i + 1, p) name fresh (changed_upto distinct i (omega arith) name) (bytes_eq p.name name) refl)

  changed_is : are_distinct (map package_id ps) ≡ true → (name : List ℕ) → is_changed start name ≡ item_holds is (changed_item problem name)
  changed_is distinct name =
      let all : first (length ps) ≡ universe start = ap (enumerate_from 1) (map-id (take (length ps) ps) ∙ take_all (length ps) ps (omega arith)) in
      subst (λ (packages : List Placed). has_changed packages name ≡ list_any (differs name) packages) all (changed_upto distinct (length ps) (omega arith) name)
      ∙ any_at (differs name) (λ q. is_named name q && is_true_in is (changes q)) 1 ps (λ i d lt. ap (λ b. is_named name (1 + i, get_or ps i d) && b) (sym (changes_at i d lt)))
      ∙ sym (list_any-map changes (is_true_in is) (filter (is_named name) (universe start)) ∙ list_any-filter (λ (q : Placed). is_true_in is (changes q)) (is_named name) (universe start))
      ∙ sym (and_true (list_any (is_true_in is) (changed_item problem name).some))

  pub changed_count : are_distinct (map package_id ps) ≡ true → count_by (is_changed start) (names problem) ≡ count_by (item_holds is) (map (changed_item problem) (names problem))
  changed_count distinct = count_same (is_changed start) (λ name. item_holds is (changed_item problem name)) (changed_is distinct) (names problem) ∙ sym (count_map (item_holds is) (changed_item problem) (names problem))

  -- ---- recommended

  abbrev triples : Placed → List (List ℕ × ℕ × ℕ)
  triples p = map (λ c. (p.1.name, p.1.version, c.0)) (filter (λ c. not (satisfies_clause start.proposed c.1)) (enumerate_from 1 (recommended start p)))

  length_triples : (p : Placed) → length (triples p) ≡ count_by (λ clause. not (satisfies_clause start.proposed clause)) (recommended start p)
  length_triples p =
      length-map (filter (λ (e : ℕ × List PlainAtom). not (satisfies_clause start.proposed e.1)) (enumerate_from 1 (recommended start p))) (λ (e : ℕ × List PlainAtom). (p.1.name, p.1.version, e.0))
      ∙ passing 1 (recommended start p)
    where
      passing : (n : ℕ) (clauses : List (List PlainAtom)) → length (filter (λ (e : ℕ × List PlainAtom). not (satisfies_clause start.proposed e.1)) (enumerate_from n clauses)) ≡ count_by (λ clause. not (satisfies_clause start.proposed clause)) clauses
      passing n [] = refl
      passing n (clause ∷ clauses) = by (satisfies_clause start.proposed clause) (passing (n + 1) clauses) ∙ sym (count_cons (λ c. not (satisfies_clause start.proposed c)) clause clauses)
        where
          by : (b : Bool) → length (filter (λ (e : ℕ × List PlainAtom). not (satisfies_clause start.proposed e.1)) (enumerate_from (n + 1) clauses)) ≡ count_by (λ c. not (satisfies_clause start.proposed c)) clauses
              → length (cond (not b) ((n, clause) ∷ filter (λ (e : ℕ × List PlainAtom). not (satisfies_clause start.proposed e.1)) (enumerate_from (n + 1) clauses)) (filter (λ (e : ℕ × List PlainAtom). not (satisfies_clause start.proposed e.1)) (enumerate_from (n + 1) clauses)))
              ≡ cond (not b) 1 0 + count_by (λ c. not (satisfies_clause start.proposed c)) clauses
          by true more = omega arith
          by false more = omega arith

  abbrev missed : Placed → List PlainAtom → Item
  missed p clause = item (is_in p.0 ∷ []) (one_of (meets_clause_alone clause) (universe start))

  missed_at : (i : ℕ) (d : PlainPackage) → i < length ps → (clause : List PlainAtom) → let p : Placed = (1 + i, get_or ps i d) in
      (not (meets_clause_alone clause p) && item_holds is (missed p clause)) ≡ (is p.0 && not (satisfies_clause start.proposed clause))
  missed_at i d lt clause =
      (λ j. not (meets_clause_alone clause p) && (or_false (is p.0) j && not (met j)))
      ∙ by (meets_clause_alone clause p) (is p.0) (satisfies_clause [] clause) (list_any (meets_clause_alone clause) start.proposed) (conjunct_alone (p ∷ []) clause) own
      ∙ ap (λ b. is p.0 && not b) (sym (conjunct_alone start.proposed clause))
    where
      p : Placed
      p = (1 + i, get_or ps i d)

      met : list_any (is_true_in is) (one_of (meets_clause_alone clause) (universe start)) ≡ list_any (meets_clause_alone clause) start.proposed
      met = one_of_any is (meets_clause_alone clause) (universe start) ∙ sym (installed_any is (meets_clause_alone clause) (universe start))

      own : is p.0 ≡ true → meets_clause_alone clause p ≡ true → list_any (meets_clause_alone clause) start.proposed ≡ true
      own here does = installed_any is (meets_clause_alone clause) (universe start) ∙ one_at (λ q. is q.0 && meets_clause_alone clause q) 1 ps i d lt (λ j. here j && does j)

      by : (m here e x : Bool) → m ≡ (e || (m || false)) → (here ≡ true → m ≡ true → x ≡ true) → (not m && (here && not x)) ≡ (here && not (e || x))
      by true true true x h own = refl
      by true true false x h own = ap not (sym (own refl refl))
      by true false e x h own = refl
      by false here true x h own = cc
      by false here false x h own = refl

  missed_of : (i : ℕ) (d : PlainPackage) → i < length ps → let p : Placed = (1 + i, get_or ps i d) in cond (is p.0) (length (triples p)) 0 ≡ count_by (item_holds is) (missed_items problem p)
  missed_of i d lt =
      ap (λ n. cond (is p.0) n 0) (length_triples p)
      ∙ by (is p.0)
      ∙ sym (count_same (λ clause. not (meets_clause_alone clause p) && item_holds is (missed p clause)) (λ clause. is p.0 && not (satisfies_clause start.proposed clause)) (missed_at i d lt) (recommended start p))
      ∙ sym (count_filter (λ clause. item_holds is (missed p clause)) (λ clause. not (meets_clause_alone clause p)) (recommended start p))
      ∙ sym (count_map (item_holds is) (missed p) (filter (λ clause. not (meets_clause_alone clause p)) (recommended start p)))
    where
      p : Placed
      p = (1 + i, get_or ps i d)

      never : (clauses : List (List PlainAtom)) → 0 ≡ count_by (λ clause. false) clauses
      never [] = refl
      never (clause ∷ clauses) = let more = never clauses in let one = count_cons (λ (c : List PlainAtom). false) clause clauses in omega arith

      by : (b : Bool) → cond b (count_by (λ clause. not (satisfies_clause start.proposed clause)) (recommended start p)) 0 ≡ count_by (λ clause. b && not (satisfies_clause start.proposed clause)) (recommended start p)
      by true = refl
      by false = never (recommended start p)

  pub missed_count : length (unsatisfied_recommends start) ≡ count_by (item_holds is) (flat_map (missed_items problem) (universe start))
  missed_count = made_at is triples (missed_items problem) (item_holds is) 1 ps missed_of
