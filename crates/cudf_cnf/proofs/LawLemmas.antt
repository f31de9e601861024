-- The violated instances of a proposal are those of the problem whose clauses it doesn't all satisfy; and its unknown stanzas.
use Rattle.std.proofs.Common.{◌≡◌, ℕ, ◌-◌, ◌<◌, ◌≤◌, Bool, true, false, not, ◌&&◌, ◌||◌, get_or, List, [], ◌∷◌, ◌++◌, length, map, filter, cond, refl, sym, subst, ap, ◌∙◌, arith}
use Rattle.std.specs.Prelude.{Contains, IsTrue}
use Rattle.std.specs.List.{list_all, flat_map, enumerate_from}
use Rattle.std.proofs.Math.Bool.{and-true, and_comm, not-not, or-false}
use Rattle.std.proofs.Math.ListN.{get_or-map}
use Rattle.std.proofs.lemmas.List.{append-nil, length-map}
use Rattle.std.proofs.lemmas.List.Elements.{All-contains, All-map, Contains-append_left, Contains-get_or, filter-append, filter_agree}
use Rattle.std.proofs.lemmas.List.Folds.{list_all-map, list_all_at}
use Rattle.std.proofs.lemmas.List.Sums.{AllPass-from_list_all}
use Rattle.std.proofs.lemmas.Option.{slice_get-get_or}
use Rattle.cudf_problem.specs.declared.package.Keep.{Keep}
use Rattle.cudf_problem.specs.declared.package.Keep.TheVariants.{Version, Package, Feature, Nothing}
use Rattle.cudf_problem.specs.Documents.{is_empty}
use Rattle.cudf_problem.specs.Statuses.{PlainUnknown, is_initial}
use Rattle.cudf_problem.specs.Universe.{PlainProblem, PlainRequest}
use Rattle.cudf_value.specs.Vpkgs.{PlainVpkg}
use Rattle.cudf_index.specs.Promises.Places.{is_named}
use Rattle.cudf_index.specs.Satisfaction.{Placed, numbers_of}
use Rattle.cudf_job.specs.declared.key.Aspect.{Aspect}
use Rattle.cudf_job.specs.declared.key.Aspect.TheVariants.{Unsatisfied, Many, Lower}
use Rattle.cudf_job.specs.Working.Keys.{unknown_key}
use Rattle.cudf_lrat.specs.declared.cnf.Literal.{Literal}
use Rattle.cudf_lrat.specs.Literals.{IsCore, clause_at, is_satisfied_by}
use Rattle.cudf_referee.specs.Instances.{PlainInstance, keep_feature}
use Rattle.cudf_referee.specs.Proposals.{Proposal, everything, holds_place}
use Rattle.cudf_referee.specs.Violations.{entry_instances, is_violated, kept_instances, listing, needed_instances, of_each, package_instances, problem_instances, request_instances, unknown_instance}
use Rattle.cudf_referee.specs.Working.RuleInstances.{conflicts_instance, depends_instance, install_instance, keep_instance, remove_instance, upgrade_instance}
use Rattle.cudf_referee.proofs.ListLemmas.{filter-map, is_empty-append, is_empty-filter, is_empty-map, list_all-flat_map, list_all-same, none_kept}
use Rattle.cudf_referee.proofs.SolutionLemmas.{solution_is_empty}
use Rattle.cudf_referee.proofs.StatusLemmas.{holds-own}
use Rattle.cudf_cnf.specs.Cnf.{Keyed, clauses_of, cnf, instance_clauses, keyed_clauses}
use Rattle.cudf_cnf.specs.Laws.{FalsifiedIsViolated, RefutedAreViolated, RefutedHasNone, SolutionSatisfies, proposed}
use Rattle.cudf_cnf.proofs.RuleLemmas.{conflict_fails, fails, holds_own, lower_fails, many_fails, meets_fails, needs_fails, one_fails, removal_fails}
use Rattle.cudf_cnf.proofs.TestLemmas.{Contains-filter, flat_map-where, from_one, not_all, passing}

-- ---- tests that keep the same

filter-flat : {A B : Type 0} (p : B → Bool) (f : A → List B) (xs : List A) → filter p (flat_map f xs) ≡ flat_map (λ x. filter p (f x)) xs
filter-flat p f [] = refl
filter-flat p f (x ∷ xs) = filter-append p (f x) (flat_map f xs) ∙ ap (λ ys. filter p (f x) ++ ys) (filter-flat p f xs)

filter-if : {A : Type 0} (b : Bool) (p : A → Bool) (xs : List A) → filter p (cond b xs []) ≡ filter (λ x. b && p x) xs
filter-if true p xs = refl
filter-if false p xs = sym (none_kept (λ x. false) (λ x. refl) xs)

module _ (p q : PlainInstance → Bool) where
  same-append : (xs ys : List PlainInstance) → filter p xs ≡ filter q xs → filter p ys ≡ filter q ys → filter p (xs ++ ys) ≡ filter q (xs ++ ys)
  same-append xs ys h k = filter-append p xs ys ∙ (λ i. h i ++ k i) ∙ sym (filter-append q xs ys)

  same-cons : (x : PlainInstance) (xs : List PlainInstance) → p x ≡ q x → filter p xs ≡ filter q xs → filter p (x ∷ xs) ≡ filter q (x ∷ xs)
  same-cons x xs h k = λ i. cond (h i) (x ∷ k i) (k i)

  same-each : {A : Type 0} (make : ℕ → A → PlainInstance) → ((n : ℕ) (x : A) → p (make n x) ≡ q (make n x)) → (xs : List A) → filter p (of_each make xs) ≡ filter q (of_each make xs)
  same-each {A} make same xs =
      let entries = enumerate_from 1 xs in
      filter-map p (λ (e : ℕ × A). make e.0 e.1) entries
      ∙ ap (map (λ (e : ℕ × A). make e.0 e.1)) (filter_agree (λ (e : ℕ × A). p (make e.0 e.1)) (λ e. q (make e.0 e.1)) (λ e. same e.0 e.1) entries)
      ∙ sym (filter-map q (λ (e : ℕ × A). make e.0 e.1) entries)

-- ---- instance by instance

module _ (problem : PlainProblem) (is : ℕ → Bool) where
  abbrev all : List Placed
  all = enumerate_from 1 problem.packages

  abbrev s : Proposal
  s = proposed problem is []

  -- the status doesn't satisfy all clauses of the instance
  abbrev pub falls : PlainInstance → Bool
  falls i = fails is (instance_clauses problem i)

  needed_fall : (p : Placed) → holds_place all p.0 ≡ true → filter (λ i. is p.0 && is_violated s i) (needed_instances p) ≡ filter falls (needed_instances p)
  needed_fall p there =
      let violated = λ (i : PlainInstance). is p.0 && is_violated s i in
      same-append violated falls (of_each (depends_instance p) p.1.depends) (of_each (conflicts_instance p) p.1.conflicts)
      (same-each violated falls (depends_instance p) (λ n clause. sym (needs_fails is all p.0 there clause)) p.1.depends)
      (same-each violated falls (conflicts_instance p) (λ n v. sym (conflict_fails is all p.0 v)) p.1.conflicts)

  kept_fall : (k : Keep) (p : Placed) → holds_place all p.0 ≡ true → filter (is_violated s) (kept_instances k p) ≡ filter falls (kept_instances k p)
  kept_fall Version p there = ap (λ b. cond (not b) (kept_instances Version p) []) (holds_own is all p.0 there ∙ sym (and-true (is p.0 || false) ∙ or-false (is p.0)))
  kept_fall Package p there = ap (λ b. cond b (kept_instances Package p) []) (sym (one_fails is (is_named p.1.name) all))
  kept_fall Feature p there = same-each (is_violated s) falls (λ n v. keep_instance p n (keep_feature v)) (λ n v. sym (meets_fails is v all)) p.1.provides
  kept_fall Nothing p there = refl

  package_falls : (p : Placed) → holds_place all p.0 ≡ true → filter (is_violated s) (package_instances s p) ≡ filter falls (package_instances (everything problem) p)
  package_falls p there =
      let kept = cond (holds_place s.initial p.0) (kept_instances p.1.keep p) [] in
      filter-append (is_violated s) (cond (holds_place s.proposed p.0) (needed_instances p) []) kept
      ∙ (λ i. (ap (λ b. filter (is_violated s) (cond b (needed_instances p) [])) (holds_own is all p.0 there)
      ∙ filter-if (is p.0) (is_violated s) (needed_instances p)
      ∙ needed_fall p there
      ∙ ap (λ b. filter falls (cond b (needed_instances p) [])) (sym (holds_own (λ place. true) all p.0 there))) i
      ++ kept_if (holds_place s.initial p.0) i)
      ∙ sym (filter-append falls (cond (holds_place (everything problem).proposed p.0) (needed_instances p) []) kept)
    where
      kept_if : (b : Bool) → filter (is_violated s) (cond b (kept_instances p.1.keep p) []) ≡ filter falls (cond b (kept_instances p.1.keep p) [])
      kept_if true = kept_fall p.1.keep p there
      kept_if false = refl

  abbrev r : PlainRequest
  r = problem.request

  entry_falls : (e : ℕ × PlainVpkg) → filter (is_violated s) (entry_instances r e) ≡ filter falls (entry_instances r e)
  entry_falls e =
      let v = e.1 in
      let one = λ (aspect : Aspect). upgrade_instance r aspect e.0 v in
      same-cons (is_violated s) falls (one Unsatisfied) (one Many ∷ one Lower ∷ []) (sym (meets_fails is v all))
      (same-cons (is_violated s) falls (one Many) (one Lower ∷ []) (sym (many_fails is problem.packages v.name))
      (same-cons (is_violated s) falls (one Lower) [] (sym (lower_fails is all (numbers_of v.name s.initial) v.name)) refl))

  request_falls : filter (is_violated s) (request_instances r) ≡ filter falls (request_instances r)
  request_falls =
      let wanted = of_each (install_instance r) r.install in
      let unwanted = of_each (remove_instance r) r.remove in
      let entries = enumerate_from 1 r.upgrade in
      same-append (is_violated s) falls (wanted ++ unwanted) (flat_map (entry_instances r) entries)
      (same-append (is_violated s) falls wanted unwanted
      (same-each (is_violated s) falls (install_instance r) (λ n v. sym (meets_fails is v all)) r.install)
      (same-each (is_violated s) falls (remove_instance r) (λ n v. sym (removal_fails is all v)) r.remove))
      (filter-flat (is_violated s) (entry_instances r) entries ∙ (λ i. flat_map (λ e. entry_falls e i) entries) ∙ sym (filter-flat falls (entry_instances r) entries))

  -- what is violated is what isn't satisfied
  pub listing_falls : (unknown : List PlainUnknown) → listing (proposed problem is unknown) ≡ filter falls (problem_instances problem) ++ map unknown_instance unknown
  unfolding listing
  listing_falls unknown =
      let e = everything problem in
      let own = flat_map (package_instances s) all in
      let each = flat_map (package_instances e) all in
      let asked = request_instances r in
      let packages : filter (is_violated s) own ≡ filter falls each =
      filter-flat (is_violated s) (package_instances s) all
      ∙ flat_map-where (λ p. holds_place all p.0) (λ p. filter (is_violated s) (package_instances s p)) (λ p. filter falls (package_instances e p)) package_falls all (holds-own all)
      ∙ sym (filter-flat falls (package_instances e) all) in
      filter-append (is_violated s) (own ++ asked) (map unknown_instance unknown)
      ∙ (λ i. (filter-append (is_violated s) own asked ∙ (λ j. packages j ++ request_falls j) ∙ sym (filter-append falls each asked) ∙ ap (filter falls) (sym (append-nil (each ++ asked)))) i ++ always unknown i)
    where
      always : (us : List PlainUnknown) → filter (is_violated s) (map unknown_instance us) ≡ map unknown_instance us
      always [] = refl
      always (u ∷ us) = ap (λ is. unknown_instance u ∷ is) (always us)

pub falsified_is_violated : FalsifiedIsViolated
falsified_is_violated problem is = listing_falls problem is [] ∙ append-nil (filter (falls problem is) (problem_instances problem))

-- ---- solutions

all_satisfied : (problem : PlainProblem) (is : ℕ → Bool) → list_all (is_satisfied_by is) (clauses_of (cnf problem)) ≡ list_all (λ i. list_all (is_satisfied_by is) (instance_clauses problem i)) (problem_instances problem)
unfolding cnf
all_satisfied problem is =
    let known = problem_instances problem in
    let holds = λ (c : Keyed). is_satisfied_by is c.1 in
    list_all-map (is_satisfied_by is) (λ (c : Keyed). c.1) (flat_map (keyed_clauses problem) known)
    ∙ list_all-flat_map holds (keyed_clauses problem) known
    ∙ list_all-same (λ i. list_all holds (keyed_clauses problem i)) (λ i. list_all (is_satisfied_by is) (instance_clauses problem i))
    (λ i. list_all-map holds (λ (clause : List Literal). (i.key, clause)) (instance_clauses problem i)) known

pub solution_satisfies : SolutionSatisfies
solution_satisfies problem is unknown =
    let known = problem_instances problem in
    let holds = λ (i : PlainInstance). list_all (is_satisfied_by is) (instance_clauses problem i) in
    solution_is_empty problem (is_initial problem) is unknown
    ∙ ap is_empty (listing_falls problem is unknown)
    ∙ is_empty-append (filter (falls problem is) known) (map unknown_instance unknown)
    ∙ (λ i. (is_empty-filter (falls problem is) known ∙ list_all-same (λ j. not (falls problem is j)) holds (λ j. not-not (holds j)) known ∙ sym (all_satisfied problem is)) i && is_empty-map unknown_instance unknown i)
    ∙ and_comm (list_all (is_satisfied_by is) (clauses_of (cnf problem))) (is_empty unknown)

-- ---- what is refuted

-- of clauses that no assignment satisfies all, one isn't satisfied
unsatisfied : (clauses : List (List Literal)) (core : List ℕ) → IsCore clauses core → (is : ℕ → Bool) → (n : ℕ) × Contains core n × (is_satisfied_by is (clause_at clauses n) ≡ false)
unsatisfied clauses core refuted is = by (list_all holds core) refl
  where
    holds : ℕ → Bool
    holds n = is_satisfied_by is (clause_at clauses n)

    by : (b : Bool) → list_all holds core ≡ b → (n : ℕ) × Contains core n × (holds n ≡ false)
    by true h = absurd (refuted.1 is (All-map (λ (clause : List Literal). IsTrue (is_satisfied_by is clause)) (clause_at clauses) core (AllPass-from_list_all holds core h)))
    by false h = let found = passing (λ n. not (holds n)) core (sym (not_all holds core) ∙ ap not h) in (found.0, found.1, sym (not-not (holds found.0)) ∙ ap not found.2)

-- the instance of a clause that isn't satisfied
falls_by : (problem : PlainProblem) (is : ℕ → Bool) (c : Keyed) → Contains (cnf problem) c → is_satisfied_by is c.1 ≡ false
    → (i : PlainInstance) × Contains (problem_instances problem) i × (falls problem is i ≡ true) × (i.key ≡ c.0)
unfolding cnf
falls_by problem is c among unsatisfied =
    let found = from_one (keyed_clauses problem) (problem_instances problem) c among in
    let i : PlainInstance = found.0 in
    let clauses = instance_clauses problem i in
    let Own : Keyed → Type 0 = λ d. (i.key ≡ d.0) × Contains clauses d.1 in
    let own = All-contains Own (keyed_clauses problem i) c (All-map Own (λ (clause : List Literal). (i.key, clause)) clauses (λ k d within. (refl, Contains-get_or clauses k d within))) found.2 in
    (i, found.1, ap not (list_all_at (is_satisfied_by is) clauses own.1.0 c.1 own.1.1 (ap (is_satisfied_by is) own.1.2 ∙ unsatisfied)), own.0)

pub refuted_are_violated : RefutedAreViolated
refuted_are_violated problem core refuted is unknown =
    let found = unsatisfied (clauses_of (cnf problem)) core refuted is in
    let n = found.0 in
    let within = All-contains (λ (n : ℕ). (0 < n) × (n ≤ length (clauses_of (cnf problem)))) core n refuted.0 found.1 in
    let inside : n - 1 < length (cnf problem) = omega (arith, within.0, within.1, length-map (cnf problem) (λ (c : Keyed). c.1)) in
    let none : Keyed = (unknown_key 0, []) in
    let c : Keyed = get_or (cnf problem) (n - 1) none in
    let violated = falls_by problem is c (Contains-get_or (cnf problem) (n - 1) none inside) (ap (is_satisfied_by is) (sym (get_or-map (λ (c : Keyed). c.1) (cnf problem) (n - 1) none)) ∙ found.2) in
    let fallen = filter (falls problem is) (problem_instances problem) in
    record {
      number = n;
      clause = c;
      instance = violated.0;
      named = found.1;
      stands = slice_get-get_or (cnf problem) (n - 1) none inside;
      violated = subst (λ (is : List PlainInstance). Contains is violated.0) (sym (listing_falls problem is unknown))
          (Contains-append_left fallen (map unknown_instance unknown) violated.0 (Contains-filter (falls problem is) (problem_instances problem) violated.0 violated.1 violated.2));
      key = violated.3;
    }

not_empty : {A : Type 0} (xs : List A) (x : A) → Contains xs x → is_empty xs ≡ false
not_empty [] x c = absurd (omega (arith, c.1))
not_empty (y ∷ xs) x c = refl

pub refuted_has_none : RefutedHasNone
refuted_has_none problem core refuted is unknown =
    let one = refuted_are_violated problem core refuted is unknown in
    solution_is_empty problem (is_initial problem) is unknown ∙ not_empty (listing (proposed problem is unknown)) one.instance one.violated
