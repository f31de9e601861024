-- Which package needs another one: what is kept of it is what its definition says.
use Rattle.std.proofs.Common.{◌≡◌, ℕ, zero, suc, ◌+◌, ◌==◌, ◌<◌, Bool, true, false, not, ◌&&◌, ◌||◌, cond, List, [], ◌∷◌, ◌++◌, length, get_or, take, map, Option, Some, None, refl, sym, ap, ◌∙◌, arith}
use Rattle.std.specs.Prelude.{filter, find, is_some, option_map, option_and_then}
use Rattle.std.specs.List.{enumerate_from, list_any}
use Rattle.std.specs.Option.{option_or}
use Rattle.std.proofs.lemmas.Bool.{true≢false}
use Rattle.std.proofs.lemmas.Bool.Decides.{nat_tests}
use Rattle.cudf_value.specs.Formulas.{PlainAtom}
use Rattle.cudf_problem.proofs.ListLemmas.{is_some-find, option_map-none, option_or-none}
use Rattle.cudf_problem.specs.Universe.{PlainPackage}
use Rattle.cudf_index.specs.Promises.Members.{other_than}
use Rattle.cudf_index.specs.Satisfaction.{Placed, members, satisfies_atom, without, meets_clause_alone}
use Rattle.cudf_index.proofs.MemberLemmas.{members_kept, members_left_out}
use Rattle.cudf_index.proofs.SearchLemmas.{list_any-filter, none_narrowed}
use Rattle.cudf_referee.specs.Explanations.{is_only, needs_place}
use Rattle.cudf_referee.specs.Working.Needers.{first_beside, first_passing, holds_other, is_named, only_satisfying, some_satisfying, unless_other, with_clauses, with_other}

-- ---- tests

pub or_right : (a b : Bool) → b ≡ true → (a || b) ≡ true
or_right true b e = refl
or_right false b e = e

pub and_left : (a b : Bool) → (a && b) ≡ true → a ≡ true
and_left true b e = refl
and_left false b e = e

pub and_right : (a b : Bool) → (a && b) ≡ true → b ≡ true
and_right true b e = e
and_right false b e = absurd (true≢false (sym e))

pub and_both : (a b : Bool) → a ≡ true → b ≡ true → (a && b) ≡ true
and_both a b e f = λ i. e i && f i

pub and_not : (a b : Bool) → b ≡ true → (a && not b) ≡ false
and_not true b e = ap not e
and_not false b e = refl

same_place : (a b : ℕ) → a ≡ b → (a == b) ≡ true
same_place a b e = grind (arith, nat_tests)

pub is_place : (a b : ℕ) → (a == b) ≡ true → a ≡ b
is_place a b e = grind (arith, nat_tests)

other_place : (a m n : ℕ) → (a == m) ≡ true → (m == n) ≡ false → (a == n) ≡ false
other_place a m n e f = grind (arith, nat_tests)

both_same : (n m p : ℕ) → (n == m) ≡ true → (n == p) ≡ true → (m == p) ≡ true
both_same n m p e f = grind (arith, nat_tests)

one_differs : (n m p : ℕ) → (n == m) ≡ false → (n == p) ≡ true → (m == p) ≡ false
one_differs n m p e f = grind (arith, nat_tests)

-- ---- what one of several passes

pub any_more : (f g : Placed → Bool) → ((p : Placed) → f p ≡ true → g p ≡ true) → (ps : List Placed) → list_any f ps ≡ true → list_any g ps ≡ true
any_more f g more [] there = there
any_more f g more (p ∷ ps) there = by (f p) refl there (any_more f g more ps)
  where
    by : (b : Bool) → f p ≡ b → (b || list_any f ps) ≡ true → (list_any f ps ≡ true → list_any g ps ≡ true) → (g p || list_any g ps) ≡ true
    by true e there rest = ap (λ c. c || list_any g ps) (more p e)
    by false e there rest = or_right (g p) (list_any g ps) (rest there)

-- none passes one of two tests where none passes either
any_neither : (f g : Placed → Bool) (ps : List Placed) → list_any f ps ≡ false → list_any g ps ≡ false → list_any (λ p. f p || g p) ps ≡ false
any_neither f g [] e h = refl
any_neither f g (p ∷ ps) e h = by (f p) (g p) e h (any_neither f g ps)
  where
    by : (a b : Bool) → (a || list_any f ps) ≡ false → (b || list_any g ps) ≡ false → (list_any f ps ≡ false → list_any g ps ≡ false → list_any (λ q. f q || g q) ps ≡ false)
        → ((a || b) || list_any (λ q. f q || g q) ps) ≡ false
    by true b e h rest = absurd (true≢false e)
    by false true e h rest = absurd (true≢false h)
    by false false e h rest = rest e h

nothing_passes : (ps : List Placed) → list_any (λ p. false) ps ≡ false
nothing_passes [] = refl
nothing_passes (p ∷ ps) = nothing_passes ps

-- ---- the first that passes

-- it is at its place, and passes
found_at : (test : Placed → Bool) (ps : List Placed) (m : ℕ) → first_passing test ps ≡ Some m → list_any (λ p. p.0 == m && test p) ps ≡ true
found_at test [] m found = absurd cc
found_at test (p ∷ ps) m found = by (test p) refl found (found_at test ps m)
  where
    inside : Some p.0 ≡ Some m → p.0 ≡ m
    inside e = cc

    by : (b : Bool) → test p ≡ b → option_map (λ (q : Placed). q.0) (cond b (Some p) (find test ps)) ≡ Some m → (first_passing test ps ≡ Some m → list_any (λ q. q.0 == m && test q) ps ≡ true)
        → ((p.0 == m && test p) || list_any (λ q. q.0 == m && test q) ps) ≡ true
    by true e found rest = ap (λ c. c || list_any (λ q. q.0 == m && test q) ps) (and_both (p.0 == m) (test p) (same_place p.0 m (inside found)) e)
    by false e found rest = or_right (p.0 == m && test p) (list_any (λ q. q.0 == m && test q) ps) (rest found)

-- where there is none, none passes
none_found : (test : Placed → Bool) (ps : List Placed) → first_passing test ps ≡ None → list_any test ps ≡ false
none_found test ps none = sym (is_some-find test ps) ∙ ap is_some (option_map-none (λ (p : Placed). p.0) (find test ps) none)

-- one that is at another place isn't left out
elsewhere : (test : Placed → Bool) (m place : ℕ) (ps : List Placed) → (m == place) ≡ false → list_any (λ p. p.0 == m && test p) ps ≡ true → list_any test (without place ps) ≡ true
elsewhere test m place ps apart there =
    list_any-filter test (λ (p : Placed). not (p.0 == place)) ps
    ∙ any_more (λ p. p.0 == m && test p) (λ p. not (p.0 == place) && test p)
    (λ p e. and_both (not (p.0 == place)) (test p) (ap not (other_place p.0 m place (and_left (p.0 == m) (test p) e) apart)) (and_right (p.0 == m) (test p) e)) ps there

-- ---- less one place

module _ (p q : Placed → Bool) where
  filter_first : (b : Bool) (x : Placed) (xs : List Placed) → filter p (cond b (x ∷ xs) xs) ≡ cond b (cond (p x) (x ∷ filter p xs) (filter p xs)) (filter p xs)
  filter_first true x xs = refl
  filter_first false x xs = refl

  filter_both : (xs : List Placed) → filter (λ x. p x && q x) xs ≡ filter p (filter q xs)
  filter_both [] = refl
  filter_both (x ∷ xs) = by (p x) (q x) (filter_both xs) ∙ sym (filter_first (q x) x (filter q xs))
    where
      by : (b c : Bool) → filter (λ y. p y && q y) xs ≡ filter p (filter q xs)
          → cond (b && c) (x ∷ filter (λ y. p y && q y) xs) (filter (λ y. p y && q y) xs) ≡ cond c (cond b (x ∷ filter p (filter q xs)) (filter p (filter q xs))) (filter p (filter q xs))
      by true true rest = ap (λ ys. x ∷ ys) rest
      by true false rest = rest
      by false true rest = rest
      by false false rest = rest

-- those that are held, less one of them
pub other_held : (holds : ℕ → Bool) (except : Option ℕ) (packages : List PlainPackage) → members (holds_other holds except) packages ≡ other_than except (members holds packages)
other_held holds None packages = refl
other_held holds (Some place) packages = filter_both (λ (p : Placed). not (p.0 == place)) (λ (p : Placed). holds p.0) (enumerate_from 1 packages)

-- the first less one place
pub beside_is : (place : ℕ) (ps : List Placed) (first second : Option ℕ) → first ≡ first_passing (λ _. true) ps → second ≡ first_passing (λ _. true) (other_than first ps)
    → first_beside place first second ≡ first_passing (λ _. true) (without place ps)
beside_is place [] first second e f = ap (λ o. first_beside place o second) e
beside_is place (p ∷ ps) first second e f = ap (λ o. first_beside place o second) e ∙ by (p.0 == place) refl
  where
    left : (b : Bool) → (p.0 == place) ≡ b → first_passing (λ _. true) (without place (p ∷ ps)) ≡ first_passing (λ _. true) (cond (not b) (p ∷ without place ps) (without place ps))
    left b h = ap (λ c. first_passing (λ _. true) (cond (not c) (p ∷ without place ps) (without place ps))) h

    by : (b : Bool) → (p.0 == place) ≡ b → cond b second (Some p.0) ≡ first_passing (λ _. true) (without place (p ∷ ps))
    by true h = f ∙ ap (λ o. first_passing (λ _. true) (other_than o (p ∷ ps))) e ∙ ap (λ m. first_passing (λ _. true) (without m (p ∷ ps))) (is_place p.0 place h)
    by false h = sym (left false h)

-- ---- the only one that satisfies a clause

none_satisfying : (ps : List Placed) (clause : List PlainAtom) → some_satisfying ps clause ≡ None → list_any (meets_clause_alone clause) ps ≡ false
none_satisfying ps [] none = nothing_passes ps
none_satisfying ps (atom ∷ atoms) none = by (first_passing test ps) refl none (none_satisfying ps atoms)
  where
    test : Placed → Bool
    test p = satisfies_atom (p ∷ []) atom

    by : (o : Option ℕ) → first_passing test ps ≡ o → option_or o (some_satisfying ps atoms) ≡ None → (some_satisfying ps atoms ≡ None → list_any (meets_clause_alone atoms) ps ≡ false)
        → list_any (λ p. test p || meets_clause_alone atoms p) ps ≡ false
    by None e none rest = any_neither test (meets_clause_alone atoms) ps (none_found test ps e) (rest none)
    by (Some m) e none rest = absurd cc

found_satisfying : (ps : List Placed) (clause : List PlainAtom) (m : ℕ) → some_satisfying ps clause ≡ Some m → list_any (λ p. p.0 == m && meets_clause_alone clause p) ps ≡ true
found_satisfying ps [] m found = absurd cc
found_satisfying ps (atom ∷ atoms) m found = by (first_passing test ps) refl found (found_satisfying ps atoms m)
  where
    test : Placed → Bool
    test p = satisfies_atom (p ∷ []) atom

    all : Placed → Bool
    all p = p.0 == m && (test p || meets_clause_alone atoms p)

    by_atom : (p : Placed) → (p.0 == m && test p) ≡ true → all p ≡ true
    by_atom p e = and_both (p.0 == m) (test p || meets_clause_alone atoms p) (and_left (p.0 == m) (test p) e) (ap (λ b. b || meets_clause_alone atoms p) (and_right (p.0 == m) (test p) e))

    by_rest : (p : Placed) → (p.0 == m && meets_clause_alone atoms p) ≡ true → all p ≡ true
    by_rest p e = and_both (p.0 == m) (test p || meets_clause_alone atoms p) (and_left (p.0 == m) (meets_clause_alone atoms p) e) (or_right (test p) (meets_clause_alone atoms p) (and_right (p.0 == m) (meets_clause_alone atoms p) e))

    by : (o : Option ℕ) → first_passing test ps ≡ o → option_or o (some_satisfying ps atoms) ≡ Some m
        → (some_satisfying ps atoms ≡ Some m → list_any (λ p. p.0 == m && meets_clause_alone atoms p) ps ≡ true) → list_any all ps ≡ true
    by None e found rest = any_more (λ p. p.0 == m && meets_clause_alone atoms p) all by_rest ps (rest found)
    by (Some k) e found rest = any_more (λ p. p.0 == m && test p) all by_atom ps (found_at test ps m (e ∙ found))

-- where another one satisfies it too, none is the only one
two_satisfying : (ps : List Placed) (clause : List PlainAtom) (m place : ℕ) → some_satisfying ps clause ≡ Some m → is_some (some_satisfying (without m ps) clause) ≡ true
    → false ≡ is_only ps place clause
two_satisfying ps clause m place found more = sym (and_not (list_any (λ p. p.0 == place && meets_clause_alone clause p) ps) (list_any (meets_clause_alone clause) (without place ps)) (by (m == place) refl))
  where
    test : Placed → Bool
    test = meets_clause_alone clause

    two : (o : Option ℕ) → some_satisfying (without m ps) clause ≡ o → is_some o ≡ true → list_any test (without m ps) ≡ true
    two None e some = absurd (true≢false (sym some))
    two (Some k) e some = any_more (λ p. p.0 == k && test p) test (λ p h. and_right (p.0 == k) (test p) h) (without m ps) (found_satisfying (without m ps) clause k e)

    by : (b : Bool) → (m == place) ≡ b → list_any test (without place ps) ≡ true
    by true e = ap (λ n. list_any test (without n ps)) (sym (is_place m place e)) ∙ two (some_satisfying (without m ps) clause) refl more
    by false e = elsewhere test m place ps e (found_satisfying ps clause m found)

-- where none other does, it is the only one
one_satisfying : (ps : List Placed) (clause : List PlainAtom) (m place : ℕ) → some_satisfying ps clause ≡ Some m → some_satisfying (without m ps) clause ≡ None
    → (m == place) ≡ is_only ps place clause
one_satisfying ps clause m place found none = by (m == place) refl
  where
    test : Placed → Bool
    test = meets_clause_alone clause

    at_place : m ≡ place → is_only ps place clause ≡ true
    at_place e = and_both (list_any (λ p. p.0 == place && test p) ps) (not (list_any test (without place ps)))
        (ap (λ n. list_any (λ p. p.0 == n && test p) ps) (sym e) ∙ found_satisfying ps clause m found)
        (ap not (ap (λ n. list_any test (without n ps)) (sym e) ∙ none_satisfying (without m ps) clause none))

    by : (b : Bool) → (m == place) ≡ b → b ≡ is_only ps place clause
    by true e = sym (at_place (is_place m place e))
    by false e = sym (and_not (list_any (λ p. p.0 == place && test p) ps) (list_any test (without place ps)) (elsewhere test m place ps e (found_satisfying ps clause m found)))

pub only_is : (ps : List Placed) (clause : List PlainAtom) (place : ℕ) → is_named place (only_satisfying ps clause) ≡ is_only ps place clause
only_is ps clause place = by (some_satisfying ps clause) refl
  where
    beside : (m : ℕ) → some_satisfying ps clause ≡ Some m → (o : Option ℕ) → some_satisfying (without m ps) clause ≡ o
        → is_named place (cond (is_some o) None (Some m)) ≡ is_only ps place clause
    beside m found None e = one_satisfying ps clause m place found e
    beside m found (Some k) e = two_satisfying ps clause m place found (ap is_some e)

    by : (o : Option ℕ) → some_satisfying ps clause ≡ o → is_named place (option_and_then (unless_other ps clause) o) ≡ is_only ps place clause
    by None none = sym (ap (λ b. b && not (list_any (meets_clause_alone clause) (without place ps)))
        (none_narrowed (meets_clause_alone clause) (λ (p : Placed). p.0 == place) ps (none_satisfying ps clause none)))
    by (Some m) found = beside m found (some_satisfying (without m ps) clause) refl

-- ---- what is kept, clause by clause

-- the needer, where it needs the package
abbrev needer_if : Bool → ℕ → Option ℕ
needer_if b needer = cond b (Some needer) None

module _ (needer place : ℕ) where
  none_added : (b : Bool) (kept : Option ℕ) → kept ≡ option_or kept (needer_if (b && false) needer)
  none_added true kept = sym (option_or-none kept)
  none_added false kept = sym (option_or-none kept)

  other_added : (o kept : Option ℕ) → with_other needer o place kept ≡ option_or kept (needer_if (not (needer == place) && is_named place o) needer)
  other_added None kept = none_added (not (needer == place)) kept
  other_added (Some n) kept = by (n == needer) refl (n == place) refl
    where
      tested : (b : Bool) → (needer == place) ≡ b → option_or kept (needer_if (not b && true) needer) ≡ option_or kept (needer_if (not (needer == place) && true) needer)
      tested b e = ap (λ c. option_or kept (needer_if (not c && true) needer)) (sym e)

      by : (b : Bool) → (n == needer) ≡ b → (c : Bool) → (n == place) ≡ c → cond b kept (cond c (option_or kept (Some needer)) kept) ≡ option_or kept (needer_if (not (needer == place) && c) needer)
      by true e true f = sym (option_or-none kept) ∙ tested true (both_same n needer place e f)
      by true e false f = none_added (not (needer == place)) kept
      by false e true f = tested false (one_differs n needer place e f)
      by false e false f = none_added (not (needer == place)) kept

  twice_added : (a b c : Bool) (kept : Option ℕ) → option_or (option_or kept (needer_if (a && b) needer)) (needer_if (a && c) needer) ≡ option_or kept (needer_if (a && (b || c)) needer)
  twice_added a b c (Some n) = refl
  twice_added true true c None = refl
  twice_added true false c None = refl
  twice_added false b c None = refl

  clauses_added : (ps : List Placed) (clauses : List (List PlainAtom)) (kept : Option ℕ)
      → with_clauses ps needer place clauses kept ≡ option_or kept (needer_if (not (needer == place) && list_any (is_only ps place) clauses) needer)
  clauses_added ps [] kept = none_added (not (needer == place)) kept
  clauses_added ps (clause ∷ clauses) kept =
      let rest = list_any (is_only ps place) clauses in
      clauses_added ps clauses (with_other needer (only_satisfying ps clause) place kept)
      ∙ ap (λ o. option_or o (needer_if (not (needer == place) && rest) needer)) (other_added (only_satisfying ps clause) kept)
      ∙ ap (λ b. option_or (option_or kept (needer_if (not (needer == place) && b) needer)) (needer_if (not (needer == place) && rest) needer)) (only_is ps clause place)
      ∙ twice_added (not (needer == place)) (is_only ps place clause) rest kept

  -- a clause that doesn't need the package adds nothing
  pub nothing_added : (ps : List Placed) (clause : List PlainAtom) (kept : Option ℕ) → is_only ps place clause ≡ false
      → with_other needer (only_satisfying ps clause) place kept ≡ kept
  nothing_added ps clause kept not_only =
      other_added (only_satisfying ps clause) kept
      ∙ ap (λ b. option_or kept (needer_if (not (needer == place) && b) needer)) (only_is ps clause place ∙ not_only)
      ∙ sym (none_added (not (needer == place)) kept)

-- ---- and package by package

-- one package more
passing_push : (test : Placed → Bool) (ps : List Placed) (p : Placed) → first_passing test (ps ++ p ∷ []) ≡ option_or (first_passing test ps) (needer_if (test p) p.0)
passing_push test [] p = by (test p)
  where
    by : (b : Bool) → option_map (λ (q : Placed). q.0) (cond b (Some p) None) ≡ needer_if b p.0
    by true = refl
    by false = refl
passing_push test (x ∷ ps) p = by (test x) (passing_push test ps p)
  where
    by : (b : Bool) → first_passing test (ps ++ p ∷ []) ≡ option_or (first_passing test ps) (needer_if (test p) p.0)
        → option_map (λ (q : Placed). q.0) (cond b (Some x) (find test (ps ++ p ∷ [])))
        ≡ option_or (option_map (λ (q : Placed). q.0) (cond b (Some x) (find test ps))) (needer_if (test p) p.0)
    by true rest = refl
    by false rest = rest

-- what is found of the first so many is found of all
module _ {A : Type 0} (view : A → PlainPackage) (test : Placed → Bool) (holds : ℕ → Bool) where
  abbrev held_from : ℕ → List A → List Placed
  held_from n xs = filter (λ (q : Placed). holds q.0) (enumerate_from n (map view xs))

  of_prefix : (k n : ℕ) (xs : List A) (m : ℕ) → first_passing test (held_from n (take k xs)) ≡ Some m → first_passing test (held_from n xs) ≡ Some m
  of_prefix zero n xs m found = absurd cc
  of_prefix (suc k) n [] m found = absurd cc
  of_prefix (suc k) n (x ∷ xs) m found = by (holds n) found (of_prefix k (n + 1) xs m)
    where
      p : Placed
      p = (n, view x)

      few : List Placed
      few = held_from (n + 1) (take k xs)

      all : List Placed
      all = held_from (n + 1) xs

      first : (b : Bool) → option_map (λ (q : Placed). q.0) (cond b (Some p) (find test few)) ≡ Some m → (first_passing test few ≡ Some m → first_passing test all ≡ Some m)
          → option_map (λ (q : Placed). q.0) (cond b (Some p) (find test all)) ≡ Some m
      first true found more = found
      first false found more = more found

      by : (b : Bool) → first_passing test (cond b (p ∷ few) few) ≡ Some m → (first_passing test few ≡ Some m → first_passing test all ≡ Some m)
          → first_passing test (cond b (p ∷ all) all) ≡ Some m
      by true found more = first (test p) found more
      by false found more = more found

module _ {A : Type 0} (view : A → PlainPackage) (status : List Placed) (place : ℕ) (holds : ℕ → Bool) (xs : List A) (i : ℕ) (d : A) (inside : i < length xs) where
  pub needer_kept : (old new : Option ℕ) → holds (i + 1) ≡ true → old ≡ first_passing (needs_place status place) (members holds (map view (take i xs)))
      → new ≡ with_clauses status (i + 1) place (view (get_or xs i d)).depends old
      → new ≡ first_passing (needs_place status place) (members holds (map view (take (i + 1) xs)))
  needer_kept old new e before more =
      let so_far = members holds (map view (take i xs)) in
      let p : Placed = (i + 1, view (get_or xs i d)) in
      more ∙ clauses_added (i + 1) place status p.1.depends old
      ∙ ap (λ o. option_or o (needer_if (needs_place status place p) (i + 1))) before
      ∙ sym (passing_push (needs_place status place) so_far p)
      ∙ ap (first_passing (needs_place status place)) (sym (members_kept view holds xs i d inside e))

  pub needer_left_out : (old : Option ℕ) → holds (i + 1) ≡ false → old ≡ first_passing (needs_place status place) (members holds (map view (take i xs)))
      → old ≡ first_passing (needs_place status place) (members holds (map view (take (i + 1) xs)))
  needer_left_out old e before = before ∙ ap (first_passing (needs_place status place)) (sym (members_left_out view holds xs i d inside e))

  abbrev this : Placed
  this = (i + 1, view (get_or xs i d))

  abbrev first_needer : List A → Option ℕ
  first_needer ys = first_passing (needs_place status place) (members holds (map view ys))

  pub search_goes_on : (holds (i + 1) && needs_place status place this) ≡ false → first_needer (take i xs) ≡ None → first_needer (take (i + 1) xs) ≡ None
  search_goes_on fails none = by (holds (i + 1)) refl fails
    where
      by : (b : Bool) → holds (i + 1) ≡ b → (b && needs_place status place this) ≡ false → first_needer (take (i + 1) xs) ≡ None
      by true e fails =
          ap (first_passing (needs_place status place)) (members_kept view holds xs i d inside e)
          ∙ passing_push (needs_place status place) (members holds (map view (take i xs))) this
          ∙ (λ j. option_or (none j) (needer_if (fails j) (i + 1)))
      by false e fails = ap (first_passing (needs_place status place)) (members_left_out view holds xs i d inside e) ∙ none

  pub search_ends : (holds (i + 1) && needs_place status place this) ≡ true → first_needer (take i xs) ≡ None → Some (i + 1) ≡ first_needer xs
  search_ends passes none =
      let held = and_left (holds (i + 1)) (needs_place status place this) passes in
      let needs = and_right (holds (i + 1)) (needs_place status place this) passes in
      sym (of_prefix view (needs_place status place) holds (i + 1) 1 xs (i + 1)
      (ap (first_passing (needs_place status place)) (members_kept view holds xs i d inside held)
      ∙ passing_push (needs_place status place) (members holds (map view (take i xs))) this
      ∙ (λ j. option_or (none j) (needer_if (needs j) (i + 1)))))
