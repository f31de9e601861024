-- The first package that would help, atom by atom, and what its status satisfies.
use Rattle.std.proofs.Common.{◌≡◌, ℕ, zero, suc, ◌+◌, ◌==◌, ◌<◌, ◌≤◌, Bool, true, false, not, ◌&&◌, ◌||◌, cond, min, List, [], ◌∷◌, ◌++◌, length, take, map, Option, Some, None, refl, sym, ap, ◌∙◌, subst, arith, ne_eqb}
use Rattle.std.specs.Prelude.{filter, find, is_some, option_map, IfSome}
use Rattle.std.specs.List.{list_any, enumerate_from}
use Rattle.std.proofs.lemmas.Bool.{true≢false}
use Rattle.std.proofs.lemmas.Bool.Decides.{nat_tests}
use Rattle.std.proofs.lemmas.List.{map_push}
use Rattle.std.proofs.lemmas.List.Folds.{list_any-append}
use Rattle.cudf_value.specs.declared.atom.Atom.{Atom}
use Rattle.cudf_value.specs.Promises.Views.{atom_view}
use Rattle.cudf_value.specs.Formulas.{PlainAtom, truth_atom, falsehood_atom, named}
use Rattle.cudf_problem.proofs.ListLemmas.{is_some-find, option_map-none}
use Rattle.cudf_problem.specs.Statuses.{is_initial}
use Rattle.cudf_problem.specs.Universe.{PlainPackage, PlainProblem}
use Rattle.cudf_index.specs.Promises.Members.{outside}
use Rattle.cudf_index.specs.Satisfaction.{Placed, first_satisfying, meets_alone, members, satisfies, satisfies_atom, satisfies_clause}
use Rattle.cudf_index.proofs.SatisfactionLemmas.{member_alone}
use Rattle.cudf_index.proofs.SearchLemmas.{find-filter, list_any-filter}
use Rattle.cudf_referee.specs.Explanations.{first_helping}
use Rattle.cudf_referee.specs.Instances.{PlainWhat, needs, install, upgrade}
use Rattle.cudf_referee.specs.Promises.Laws.{NothingDoes, satisfies_what, WasInstalled, WouldDo}
use Rattle.cudf_referee.specs.Working.Firsts.{lesser_of, searched}
use Rattle.cudf_referee.specs.declared.referee.explainer.Among.{Among}
use Rattle.cudf_referee.specs.declared.referee.explainer.Among.TheVariants.{All, Initial}

-- ---- packages in the order of their places

-- the places ascend, the first from n on
abbrev Ascend : ℕ → List Placed → Type 0
Ascend n [] = Unit {0}
Ascend n (p ∷ ps) = (n ≤ p.0) × Ascend (p.0 + 1) ps

sooner : (n m : ℕ) (ps : List Placed) → n ≤ m → Ascend m ps → Ascend n ps
sooner n m [] le up = tt
sooner n m (p ∷ ps) le up = (omega (arith, up.0), up.1)

all_ascend : (n : ℕ) (xs : List PlainPackage) → Ascend n (enumerate_from n xs)
all_ascend n [] = tt
all_ascend n (x ∷ xs) = (omega arith, all_ascend (n + 1) xs)

some_ascend : (holds : ℕ → Bool) (n : ℕ) (xs : List PlainPackage) → Ascend n (filter (λ (q : Placed). holds q.0) (enumerate_from n xs))
some_ascend holds n [] = tt
some_ascend holds n (x ∷ xs) = by (holds n) (some_ascend holds (n + 1) xs)
  where
    rest : List Placed
    rest = filter (λ (q : Placed). holds q.0) (enumerate_from (n + 1) xs)

    by : (b : Bool) → Ascend (n + 1) rest → Ascend n (cond b ((n, x) ∷ rest) rest)
    by true up = (omega arith, up)
    by false up = sooner n (n + 1) rest (omega arith) up

searched_ascend : (problem : PlainProblem) (among : Among) → Ascend 1 (searched problem among)
searched_ascend problem All = all_ascend 1 problem.packages
searched_ascend problem Initial = some_ascend (is_initial problem) 1 problem.packages

-- ---- the first of them

-- the place of the first package that passes a test
abbrev pub first_of : (Placed → Bool) → List Placed → Option ℕ
first_of test status = option_map (λ p. p.0) (find test status)

-- what is found is from the first number on
from : (test : Placed → Bool) (n : ℕ) (ps : List Placed) → Ascend n ps → IfSome (first_of test ps) (λ m. n ≤ m)
from test n [] up = tt
from test n (p ∷ ps) up = by (test p) (from test (p.0 + 1) ps up.1)
  where
    further : (o : Option ℕ) → IfSome o (λ m. p.0 + 1 ≤ m) → IfSome o (λ m. n ≤ m)
    further None h = tt
    further (Some m) h = omega (arith, up.0)

    by : (b : Bool) → IfSome (first_of test ps) (λ m. p.0 + 1 ≤ m) → IfSome (option_map (λ (q : Placed). q.0) (cond b (Some p) (find test ps))) (λ m. n ≤ m)
    by true h = up.0
    by false h = further (first_of test ps) h

min-left : (n m : ℕ) → n + 1 ≤ m → min n m ≡ n
min-left n m le = omega arith

min-right : (n m : ℕ) → n + 1 ≤ m → min m n ≡ n
min-right n m le = omega arith

-- the first that passes one of two tests
first-or : (f g : Placed → Bool) (n : ℕ) (ps : List Placed) → Ascend n ps → first_of (λ p. f p || g p) ps ≡ lesser_of (first_of f ps) (first_of g ps)
first-or f g n [] up = refl
first-or f g n (p ∷ ps) up = by (f p) (g p) (first-or f g (p.0 + 1) ps up.1)
  where
    place : ℕ
    place = p.0

    before : (o : Option ℕ) → IfSome o (λ m. place + 1 ≤ m) → Some place ≡ lesser_of (Some place) o
    before None h = refl
    before (Some m) h = ap Some (sym (min-left place m h))

    behind : (o : Option ℕ) → IfSome o (λ m. place + 1 ≤ m) → Some place ≡ lesser_of o (Some place)
    behind None h = refl
    behind (Some m) h = ap Some (sym (min-right place m h))

    same : Some place ≡ lesser_of (Some place) (Some place)
    same = ap Some (omega arith)

    by : (b c : Bool) → first_of (λ q. f q || g q) ps ≡ lesser_of (first_of f ps) (first_of g ps)
        → option_map (λ (q : Placed). q.0) (cond (b || c) (Some p) (find (λ q. f q || g q) ps))
        ≡ lesser_of (option_map (λ (q : Placed). q.0) (cond b (Some p) (find f ps))) (option_map (λ (q : Placed). q.0) (cond c (Some p) (find g ps)))
    by true true more = same
    by true false more = before (first_of g ps) (from g (place + 1) ps up.1)
    by false true more = behind (first_of f ps) (from f (place + 1) ps up.1)
    by false false more = more

or-false : (b : Bool) → (b || false) ≡ b
or-false true = refl
or-false false = refl

-- one atom more
atom_more : (n : ℕ) (ps : List Placed) → Ascend n ps → (atoms : List PlainAtom) (atom : PlainAtom)
    → first_satisfying ps (atoms ++ atom ∷ []) ≡ lesser_of (first_satisfying ps atoms) (first_of (λ p. satisfies_atom (p ∷ []) atom) ps)
atom_more n ps up atoms atom =
    (λ i. first_of (λ p. split p i) ps) ∙ first-or (λ p. satisfies_clause (p ∷ []) atoms) (λ p. satisfies_atom (p ∷ []) atom) n ps up
  where
    split : (p : Placed) → satisfies_clause (p ∷ []) (atoms ++ atom ∷ []) ≡ (satisfies_clause (p ∷ []) atoms || satisfies_atom (p ∷ []) atom)
    split p = list_any-append (satisfies_atom (p ∷ [])) atoms (atom ∷ []) ∙ ap (λ b. satisfies_clause (p ∷ []) atoms || b) (or-false (satisfies_atom (p ∷ []) atom))

-- no atom
pub no_atom : (ps : List Placed) → first_satisfying ps [] ≡ None
no_atom [] = refl
no_atom (p ∷ ps) = no_atom ps

-- the atoms of a clause one after the other
pub atoms_push : (items : List Atom) (atom : Atom) (problem : PlainProblem) (among : Among) (first here new : Option ℕ)
    → first ≡ first_satisfying (searched problem among) (map atom_view items)
    → here ≡ first_of (λ p. satisfies_atom (p ∷ []) (atom_view atom)) (searched problem among)
    → new ≡ lesser_of first here → new ≡ first_satisfying (searched problem among) (map atom_view (items ++ atom ∷ []))
atoms_push items atom problem among first here new before is more =
    more ∙ (λ k. lesser_of (before k) (is k))
    ∙ sym (atom_more 1 (searched problem among) (searched_ascend problem among) (map atom_view items) (atom_view atom))
    ∙ ap (first_satisfying (searched problem among)) (sym (map_push atom_view items atom))

-- ---- packages in two parts

-- the first of all is the first of those that are held, or of the others
first_of_parts : (holds : ℕ → Bool) (test : Placed → Bool) (packages : List PlainPackage)
    → lesser_of (first_of test (members holds packages)) (first_of test (outside holds packages)) ≡ first_of test (enumerate_from 1 packages)
first_of_parts holds test packages =
    let all = enumerate_from 1 packages in
    (λ i. lesser_of (among_held i) (among_others i))
    ∙ sym (first-or held others 1 all (all_ascend 1 packages))
    ∙ (λ i. first_of (λ p. either p i) all)
  where
    held : Placed → Bool
    held p = holds p.0 && test p

    others : Placed → Bool
    others p = not (holds p.0) && test p

    among_held : first_of test (members holds packages) ≡ first_of held (enumerate_from 1 packages)
    among_held = ap (option_map (λ (p : Placed). p.0)) (find-filter test (λ p. holds p.0) (enumerate_from 1 packages))

    among_others : first_of test (outside holds packages) ≡ first_of others (enumerate_from 1 packages)
    among_others = ap (option_map (λ (p : Placed). p.0)) (find-filter test (λ p. not (holds p.0)) (enumerate_from 1 packages))

    by : (b c : Bool) → ((b && c) || (not b && c)) ≡ c
    by true true = refl
    by true false = refl
    by false c = refl

    either : (p : Placed) → (held p || others p) ≡ test p
    either p = by (holds p.0) (test p)

-- the same of what was installed and what was not
pub first_of_both : (problem now : PlainProblem) (test : Placed → Bool) (initial others : List Placed) → others ≡ outside (is_initial problem) problem.packages
    → initial ≡ members (is_initial problem) problem.packages → problem ≡ now → lesser_of (first_of test initial) (first_of test others) ≡ first_of test (enumerate_from 1 now.packages)
first_of_both problem now test initial others outside_is initial_is view =
    (λ i. lesser_of (first_of test (initial_is i)) (first_of test (outside_is i)))
    ∙ first_of_parts (is_initial problem) test problem.packages
    ∙ ap (λ p. first_of test (enumerate_from 1 p.packages)) view

-- nothing passes `false!`
pub none_pass : (status : List Placed) → None ≡ first_of (λ p. false) status
none_pass [] = refl
none_pass (p ∷ status) = none_pass status

-- the first of all
pub some_pass : (packages : List PlainPackage) → 0 < length packages → Some 1 ≡ first_of (λ p. true) (enumerate_from 1 packages)
some_pass [] inside = absurd (omega arith)
some_pass (p ∷ packages) inside = refl

-- ---- the first that a status holds

module _ (holds : ℕ → Bool) where
  abbrev held_from : ℕ → List PlainPackage → List Placed
  held_from n xs = filter (λ (q : Placed). holds q.0) (enumerate_from n xs)

  -- one more isn't held
  none_more : (n i : ℕ) (xs : List PlainPackage) → i < length xs → holds (n + i) ≡ false → held_from n (take i xs) ≡ [] → held_from n (take (suc i) xs) ≡ []
  none_more n i [] inside out none = absurd (omega (arith, inside))
  none_more n zero (x ∷ xs) inside out none = ap (λ b. cond b ((n, x) ∷ []) []) (ap holds (omega arith) ∙ out)
  none_more n (suc i) (x ∷ xs) inside out none = by (holds n) none (none_more (n + 1) i xs (omega (arith, inside)) (ap holds (omega arith) ∙ out))
    where
      by : (b : Bool) → cond b ((n, x) ∷ held_from (n + 1) (take i xs)) (held_from (n + 1) (take i xs)) ≡ []
          → (held_from (n + 1) (take i xs) ≡ [] → held_from (n + 1) (take (suc i) xs) ≡ [])
          → cond b ((n, x) ∷ held_from (n + 1) (take (suc i) xs)) (held_from (n + 1) (take (suc i) xs)) ≡ []
      by true none more = absurd (omega (arith, ap length none))
      by false none more = more none

  -- the one after those that aren't is the first
  first_is : (n i : ℕ) (xs : List PlainPackage) → i < length xs → holds (n + i) ≡ true → held_from n (take i xs) ≡ [] → Some (n + i) ≡ first_of (λ p. true) (held_from n xs)
  first_is n i [] inside holds_it none = absurd (omega (arith, inside))
  first_is n zero (x ∷ xs) inside holds_it none =
      ap Some (omega arith) ∙ ap (λ b. option_map (λ (p : Placed). p.0) (find (λ p. true) (cond b ((n, x) ∷ held_from (n + 1) xs) (held_from (n + 1) xs)))) (sym (ap holds (omega arith) ∙ holds_it))
  first_is n (suc i) (x ∷ xs) inside holds_it none = by (holds n) none (first_is (n + 1) i xs (omega (arith, inside)) (ap holds (omega arith) ∙ holds_it))
    where
      by : (b : Bool) → cond b ((n, x) ∷ held_from (n + 1) (take i xs)) (held_from (n + 1) (take i xs)) ≡ []
          → (held_from (n + 1) (take i xs) ≡ [] → Some (n + 1 + i) ≡ first_of (λ p. true) (held_from (n + 1) xs))
          → Some (n + suc i) ≡ option_map (λ (p : Placed). p.0) (find (λ p. true) (cond b ((n, x) ∷ held_from (n + 1) xs) (held_from (n + 1) xs)))
      by true none more = absurd (omega (arith, ap length none))
      by false none more = ap Some (omega arith) ∙ more none

  pub none_held_more : (packages : List PlainPackage) (i : ℕ) → i < length packages → holds (i + 1) ≡ false → members holds (take i packages) ≡ [] → members holds (take (i + 1) packages) ≡ []
  none_held_more packages i inside out none =
      let one : i + 1 ≡ suc i = omega arith in
      ap (λ k. members holds (take k packages)) one ∙ none_more 1 i packages inside (ap holds (omega arith) ∙ out) none

  pub first_is_held : (packages : List PlainPackage) (i : ℕ) → i < length packages → holds (i + 1) ≡ true → members holds (take i packages) ≡ [] → Some (i + 1) ≡ first_of (λ p. true) (members holds packages)
  first_is_held packages i inside holds_it none = ap Some (omega arith) ∙ first_is 1 i packages inside (ap holds (omega arith) ∙ holds_it) none

-- ---- what would do does

-- a place that was passed is that of none to come
none_left : (place n : ℕ) → place < n → (ps : List Placed) → Ascend n ps → filter (λ (q : Placed). q.0 == place) ps ≡ []
none_left place n lt [] up = refl
none_left place n lt (p ∷ ps) up =
    let others = filter (λ (q : Placed). q.0 == place) ps in
    ap (λ b. cond b (p ∷ others) others) (ne_eqb p.0 place (λ e. omega (arith, up.0))) ∙ none_left place (p.0 + 1) (omega (arith, up.0)) ps up.1

-- the package that is found alone passes
found_passes : (f : List Placed → Bool) (place n : ℕ) (ps : List Placed) → Ascend n ps → first_of (λ p. f (p ∷ [])) ps ≡ Some place
    → f (filter (λ (q : Placed). q.0 == place) ps) ≡ true
found_passes f place n [] up found = absurd cc
found_passes f place n (p ∷ ps) up found = by (f (p ∷ [])) refl found (found_passes f place (p.0 + 1) ps up.1)
  where
    test : Placed → Bool
    test q = f (q ∷ [])

    others : List Placed
    others = filter (λ (q : Placed). q.0 == place) ps

    inside : (m : ℕ) → Some p.0 ≡ Some m → p.0 ≡ m
    inside m e = cc

    here : (b : Bool) → (p.0 == place) ≡ b → f (cond b (p ∷ others) others) ≡ f (filter (λ (q : Placed). q.0 == place) (p ∷ ps))
    here b e = ap (λ c. f (cond c (p ∷ others) others)) (sym e)

    by : (b : Bool) → test p ≡ b → option_map (λ (q : Placed). q.0) (cond b (Some p) (find test ps)) ≡ Some place
        → (first_of test ps ≡ Some place → f others ≡ true)
        → f (filter (λ (q : Placed). q.0 == place) (p ∷ ps)) ≡ true
    by true passes found more =
        let at : p.0 ≡ place = inside place found in
        let same : (p.0 == place) ≡ true = grind (arith, nat_tests) in
        sym (here true same) ∙ ap (λ qs. f (p ∷ qs)) (none_left place (p.0 + 1) (omega arith) ps up.1) ∙ passes
    by false fails found more =
        let behind : p.0 + 1 ≤ place = subst (λ o. IfSome o (λ m. p.0 + 1 ≤ m)) found (from test (p.0 + 1) ps up.1) in
        sym (here false (ne_eqb p.0 place (λ e. omega arith))) ∙ more found

-- what an instance asks for is one test of statuses
helping_is : (ps : List Placed) (what : PlainWhat) (place : ℕ) → first_helping ps what ≡ Some place → first_of (λ p. satisfies_what (p ∷ []) what) ps ≡ Some place
helping_is ps (needs clause) place h = h
helping_is ps (install v) place h = h
helping_is ps (upgrade v) place h = h
helping_is ps what place h = absurd cc

pub would_do_does : WouldDo
would_do_does problem i place found =
    found_passes (λ ps. satisfies_what ps i.what) place 1 (enumerate_from 1 problem.packages) (all_ascend 1 problem.packages) (helping_is (enumerate_from 1 problem.packages) i.what place found)

-- what is found of those that are held is held
found_held : (holds : ℕ → Bool) (test : Placed → Bool) (place : ℕ) (ps : List Placed) → first_of test (filter (λ (q : Placed). holds q.0) ps) ≡ Some place → holds place ≡ true
found_held holds test place [] found = absurd cc
found_held holds test place (p ∷ ps) found = by (holds p.0) refl found (found_held holds test place ps)
  where
    rest : List Placed
    rest = filter (λ (q : Placed). holds q.0) ps

    inside : (m : ℕ) → Some p.0 ≡ Some m → p.0 ≡ m
    inside m e = cc

    first : (b : Bool) → holds p.0 ≡ true → option_map (λ (q : Placed). q.0) (cond b (Some p) (find test rest)) ≡ Some place → (first_of test rest ≡ Some place → holds place ≡ true) → holds place ≡ true
    first true is found more = ap holds (sym (inside place found)) ∙ is
    first false is found more = more found

    by : (b : Bool) → holds p.0 ≡ b → first_of test (cond b (p ∷ rest) rest) ≡ Some place → (first_of test rest ≡ Some place → holds place ≡ true) → holds place ≡ true
    by true is found more = first (test p) is found more
    by false is found more = more found

-- of one place that is held nothing is left out
one_held : (holds : ℕ → Bool) (place : ℕ) → holds place ≡ true → (ps : List Placed)
    → filter (λ (q : Placed). q.0 == place) (filter (λ (q : Placed). holds q.0) ps) ≡ filter (λ (q : Placed). q.0 == place) ps
one_held holds place is [] = refl
one_held holds place is (p ∷ ps) = by (p.0 == place) refl (holds p.0) refl (one_held holds place is ps)
  where
    test : Placed → Bool
    test q = q.0 == place

    rest : List Placed
    rest = filter (λ (q : Placed). holds q.0) ps

    same : (p.0 == place) ≡ true → p.0 ≡ place
    same e = grind (arith, nat_tests)

    by : (b : Bool) → (p.0 == place) ≡ b → (c : Bool) → holds p.0 ≡ c → filter test rest ≡ filter test ps → filter test (cond c (p ∷ rest) rest) ≡ cond b (p ∷ filter test ps) (filter test ps)
    by true e true h more = ap (λ b. cond b (p ∷ filter test rest) (filter test rest)) e ∙ ap (λ qs. p ∷ qs) more
    by false e true h more = ap (λ b. cond b (p ∷ filter test rest) (filter test rest)) e ∙ more
    by true e false h more = absurd (true≢false (sym (ap holds (same e) ∙ is) ∙ h))
    by false e false h more = more

pub was_installed_was : WasInstalled
was_installed_was problem i place found =
    let holds = is_initial problem in
    let all = enumerate_from 1 problem.packages in
    let first = helping_is (members holds problem.packages) i.what place found in
    let held = found_held holds (λ p. satisfies_what (p ∷ []) i.what) place all first in (
      held,
      ap (λ ps. satisfies_what ps i.what) (sym (one_held holds place held all))
          ∙ found_passes (λ ps. satisfies_what ps i.what) place 1 (members holds problem.packages) (some_ascend holds 1 problem.packages) first,
    )

-- ---- where nothing would do

-- one of two tests is passed
pub any-or : (f g : Placed → Bool) (status : List Placed) → (list_any f status || list_any g status) ≡ list_any (λ p. f p || g p) status
any-or f g [] = refl
any-or f g (p ∷ status) = by (f p) (g p) (list_any f status) (list_any g status) ∙ ap (λ b. (f p || g p) || b) (any-or f g status)
  where
    by : (a b c d : Bool) → ((a || c) || (b || d)) ≡ ((a || b) || (c || d))
    by true b c d = refl
    by false true true d = refl
    by false true false d = refl
    by false false c d = refl

any-none : (status : List Placed) → false ≡ list_any (λ p. false) status
any-none [] = refl
any-none (p ∷ status) = any-none status

-- a status satisfies a clause that needs a package where one of its packages alone does
pub clause_alone : (status : List Placed) (clause : List PlainAtom) → satisfies_clause [] clause ≡ false
    → satisfies_clause status clause ≡ list_any (λ p. satisfies_clause (p ∷ []) clause) status
clause_alone status [] lacks = any-none status
clause_alone status (truth_atom ∷ atoms) lacks = absurd (true≢false lacks)
clause_alone status (falsehood_atom ∷ atoms) lacks = clause_alone status atoms lacks
clause_alone status (named v ∷ atoms) lacks =
    (λ i. member_alone status v i || clause_alone status atoms lacks i) ∙ any-or (meets_alone v) (λ p. satisfies_clause (p ∷ []) atoms) status

-- what none of all passes none of some passes
some-none : (q test : Placed → Bool) (xs : List Placed) → list_any test xs ≡ false → list_any test (filter q xs) ≡ false
some-none q test xs none = list_any-filter test q xs ∙ fewer xs none
  where
    fewer : (ys : List Placed) → list_any test ys ≡ false → list_any (λ x. q x && test x) ys ≡ false
    fewer [] none = refl
    fewer (y ∷ ys) none = by (q y) (test y) none (fewer ys)
      where
        by : (a b : Bool) → (b || list_any test ys) ≡ false → (list_any test ys ≡ false → list_any (λ x. q x && test x) ys ≡ false)
            → ((a && b) || list_any (λ x. q x && test x) ys) ≡ false
        by true true none more = none
        by true false none more = more none
        by false true none more = absurd (true≢false none)
        by false false none more = more none

-- where none of all passes alone, no status of them does
none_does : (f : List Placed → Bool) → ((status : List Placed) → f status ≡ list_any (λ p. f (p ∷ [])) status) → (packages : List PlainPackage) (holds : ℕ → Bool)
    → first_of (λ p. f (p ∷ [])) (enumerate_from 1 packages) ≡ None → f (members holds packages) ≡ false
none_does f alone packages holds none =
    let all = enumerate_from 1 packages in
    let test = λ (p : Placed). f (p ∷ []) in
    let nowhere : list_any test all ≡ false = sym (is_some-find test all) ∙ ap is_some (option_map-none (λ (p : Placed). p.0) (find test all) none) in
    alone (members holds packages) ∙ some-none (λ p. holds p.0) test all nowhere

pub nothing_does : NothingDoes
nothing_does problem holds i lacks none = by i.what lacks none
  where
    by : (what : PlainWhat) → satisfies_what [] what ≡ false → first_helping (enumerate_from 1 problem.packages) what ≡ None → satisfies_what (members holds problem.packages) what ≡ false
    by (needs clause) h none = none_does (λ status. satisfies_clause status clause) (λ status. clause_alone status clause h) problem.packages holds none
    by (install v) h none = none_does (λ status. satisfies status v) (λ status. member_alone status v) problem.packages holds none
    by (upgrade v) h none = none_does (λ status. satisfies status v) (λ status. member_alone status v) problem.packages holds none
    by what h none = refl
