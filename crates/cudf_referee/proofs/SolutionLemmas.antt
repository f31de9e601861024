-- A solution is a proposal of which no instance is violated.
use Rattle.std.proofs.Common.{◌≡◌, ℕ, ◌==◌, Bool, true, false, not, ◌&&◌, nat_lt, nat_le, List, [], ◌∷◌, ◌++◌, map, cond, refl, ap, sym, ◌∙◌}
use Rattle.std.specs.List.{list_all, list_any, flat_map, enumerate_from}
use Rattle.cudf_value.specs.Vpkgs.{PlainVpkg}
use Rattle.cudf_problem.specs.declared.package.Keep.{Keep}
use Rattle.cudf_problem.specs.declared.package.Keep.TheVariants.{Version, Package, Feature, Nothing}
use Rattle.cudf_problem.specs.Universe.{PlainPackage, PlainProblem}
use Rattle.cudf_problem.specs.Statuses.{PlainUnknown}
use Rattle.cudf_index.specs.Satisfaction.{Placed, members, without, numbers_of, satisfies, satisfies_clause}
use Rattle.std.proofs.lemmas.List.Folds.{list_all-append, list_all-map}
use Rattle.cudf_problem.specs.Documents.{is_empty}
use Rattle.cudf_referee.specs.Instances.{keep_feature, PlainInstance}
use Rattle.cudf_referee.specs.Proposals.{Proposal, holds_place, proposal}
use Rattle.cudf_referee.specs.Violations.{unknown_instance, of_each, needed_instances, kept_instances, package_instances, entry_instances, request_instances, has_package, are_many, are_lower, is_violated, listing}
use Rattle.cudf_referee.specs.Working.RuleInstances.{depends_instance, conflicts_instance, keep_instance, install_instance, remove_instance}
use Rattle.cudf_referee.specs.Solutions.{is_kept, are_equal, are_at_least, is_upgraded, is_solution}
use Rattle.cudf_referee.proofs.ListLemmas.{and_true, and_false, not_not, list_all-same, list_all-flat_map, is_empty-filter, list_all-enumerate, list_all-and, list_all-filter, list_any-none}
use Rattle.cudf_referee.proofs.StatusLemmas.{holds, holds-filter, holds-own, list_all-held}

-- ---- entries

-- the status satisfies each conjunct of the package's `depends`
abbrev has_its_depends : List Placed → Placed → Bool
has_its_depends status (place, p) = list_all (satisfies_clause status) p.depends

-- the status without the package satisfies no entry of its `conflicts`
abbrev has_no_conflict : List Placed → Placed → Bool
has_no_conflict status (place, p) = list_all (λ v. not (satisfies (without place status) v)) p.conflicts

-- none of these instances is violated
abbrev pub none_violated : Proposal → List PlainInstance → Bool
none_violated s is = list_all (λ i. not (is_violated s i)) is

module _ (s : Proposal) where
  none-append : (xs ys : List PlainInstance) → none_violated s (xs ++ ys) ≡ (none_violated s xs && none_violated s ys)
  none-append xs ys = list_all-append (λ i. not (is_violated s i)) xs ys

  -- of each entry
  none-each : {A : Type 0} (make : ℕ → A → PlainInstance) (test : A → Bool) → ((n : ℕ) (x : A) → not (is_violated s (make n x)) ≡ test x)
      → (xs : List A) → none_violated s (of_each make xs) ≡ list_all test xs
  none-each make test same xs =
      list_all-map (λ i. not (is_violated s i)) (λ e. make e.0 e.1) (enumerate_from 1 xs)
      ∙ list_all-same (λ e. not (is_violated s (make e.0 e.1))) (λ e. test e.1) (λ e. same e.0 e.1) (enumerate_from 1 xs)
      ∙ list_all-enumerate test 1 xs

  none-if : (test : Bool) (xs : List PlainInstance) (rest : Bool) → none_violated s xs ≡ rest → none_violated s (cond test xs []) ≡ cond test rest true
  none-if true xs rest h = h
  none-if false xs rest h = refl

  -- ---- packages

  keeps : (k : Keep) (p : Placed) → none_violated s (kept_instances k p) ≡ is_kept s.proposed k p
  keeps Version p = and_true (not (not (holds_place s.proposed p.0))) ∙ not_not (holds_place s.proposed p.0)
  keeps Package p = and_true (not (not (has_package s.proposed p.1.name))) ∙ not_not (has_package s.proposed p.1.name)
  keeps Feature p = none-each (λ n v. keep_instance p n (keep_feature v)) (satisfies s.proposed) (λ n v. not_not (satisfies s.proposed v)) p.1.provides
  keeps Nothing p = refl

  needs_nothing : (p : Placed) → none_violated s (needed_instances p) ≡ (has_its_depends s.proposed p && has_no_conflict s.proposed p)
  needs_nothing p =
      none-append (of_each (depends_instance p) p.1.depends) (of_each (conflicts_instance p) p.1.conflicts)
      ∙ (λ i. none-each (depends_instance p) (satisfies_clause s.proposed) (λ n clause. not_not (satisfies_clause s.proposed clause)) p.1.depends i
      && none-each (conflicts_instance p) (λ v. not (satisfies (without p.0 s.proposed) v)) (λ n v. refl) p.1.conflicts i)

  package_none : (p : Placed) → none_violated s (package_instances s p)
      ≡ (cond (holds_place s.proposed p.0) (has_its_depends s.proposed p && has_no_conflict s.proposed p) true && cond (holds_place s.initial p.0) (is_kept s.proposed p.1.keep p) true)
  package_none p =
      none-append (cond (holds_place s.proposed p.0) (needed_instances p) []) (cond (holds_place s.initial p.0) (kept_instances p.1.keep p) [])
      ∙ (λ i. none-if (holds_place s.proposed p.0) (needed_instances p) (has_its_depends s.proposed p && has_no_conflict s.proposed p) (needs_nothing p) i
      && none-if (holds_place s.initial p.0) (kept_instances p.1.keep p) (is_kept s.proposed p.1.keep p) (keeps p.1.keep p) i)

-- a test of the packages of a universe that a status holds is one of the packages of the status
of_members : (t : ℕ → Bool) (q : Placed → Bool) (packages : List PlainPackage)
    → list_all (λ p. cond (holds_place (members t packages) p.0) (q p) true) (enumerate_from 1 packages) ≡ list_all q (members t packages)
of_members t q packages = let all = enumerate_from 1 packages in
    list_all-same (λ p. cond (holds_place (members t packages) p.0) (q p) true) (λ p. cond (t p.0 && holds all p.0) (q p) true)
    (λ p. ap (λ b. cond b (q p) true) (holds-filter t all p.0)) all
    ∙ list_all-held t q all all (holds-own all)
    ∙ list_all-filter (λ p. t p.0) q all

packages_none : (s : Proposal) (was_installed is_installed : ℕ → Bool) → s.initial ≡ members was_installed s.problem.packages → s.proposed ≡ members is_installed s.problem.packages
    → none_violated s (flat_map (package_instances s) (enumerate_from 1 s.problem.packages))
    ≡ ((list_all (has_its_depends s.proposed) s.proposed && list_all (has_no_conflict s.proposed) s.proposed)
    && list_all (λ p. is_kept s.proposed p.1.keep p) s.initial)
packages_none s was_installed is_installed initial_is proposed_is =
    let all = enumerate_from 1 s.problem.packages in
    let needs = λ (p : Placed). has_its_depends s.proposed p && has_no_conflict s.proposed p in
    let kept = λ (p : Placed). is_kept s.proposed p.1.keep p in
    list_all-flat_map (λ i. not (is_violated s i)) (package_instances s) all
    ∙ list_all-same (λ p. none_violated s (package_instances s p)) (λ p. cond (holds_place s.proposed p.0) (needs p) true && cond (holds_place s.initial p.0) (kept p) true)
    (package_none s) all
    ∙ list_all-and (λ p. cond (holds_place s.proposed p.0) (needs p) true) (λ p. cond (holds_place s.initial p.0) (kept p) true) all
    ∙ (λ i. list_all (λ p. cond (holds_place (proposed_is i) p.0) (needs p) true) all && list_all (λ p. cond (holds_place (initial_is i) p.0) (kept p) true) all)
    ∙ (λ i. of_members is_installed needs s.problem.packages i && of_members was_installed kept s.problem.packages i)
    ∙ (λ i. list_all needs (sym proposed_is i) && list_all kept (sym initial_is i))
    ∙ ap (λ b. b && list_all kept s.initial) (list_all-and (has_its_depends s.proposed) (has_no_conflict s.proposed) s.proposed)

-- ---- the request

not_many : (ns : List ℕ) → not (are_many ns) ≡ are_equal ns
not_many ns = list_any-none (λ m. list_any (λ n. not (m == n)) ns) ns
    ∙ list_all-same (λ m. not (list_any (λ n. not (m == n)) ns)) (λ m. list_all (λ n. m == n) ns)
    (λ m. list_any-none (λ n. not (m == n)) ns ∙ list_all-same (λ n. not (not (m == n))) (λ n. m == n) (λ n. not_not (m == n)) ns) ns

not_lower : (before ns : List ℕ) → not (are_lower before ns) ≡ are_at_least before ns
not_lower before ns = list_any-none (λ n. list_any (λ m. nat_lt n m) before) ns
    ∙ list_all-same (λ n. not (list_any (λ m. nat_lt n m) before)) (λ n. list_all (λ m. nat_le m n) before)
    (λ n. list_any-none (λ m. nat_lt n m) before ∙ list_all-same (λ m. not (nat_lt n m)) (λ m. nat_le m n) (λ m. not-lt n m) before) ns
  where
    not-lt : (n m : ℕ) → not (nat_lt n m) ≡ nat_le m n
    not-lt n m = grind (Rattle.std.proofs.Common.arith, Rattle.std.proofs.lemmas.Bool.Decides.nat_tests)

module _ (s : Proposal) where
  entry_none : (v : ℕ × PlainVpkg) → none_violated s (entry_instances s.problem.request v) ≡ is_upgraded s.initial s.proposed v.1
  entry_none v =
      let numbers = numbers_of v.1.name s.proposed in
      let before = numbers_of v.1.name s.initial in
      by (not (not (satisfies s.proposed v.1))) (not (are_many numbers)) (not (are_lower before numbers))
      ∙ (λ i. (not_not (satisfies s.proposed v.1) i && not_many numbers i) && not_lower before numbers i)
    where
      by : (a b c : Bool) → (a && (b && (c && true))) ≡ ((a && b) && c)
      by true true c = and_true c
      by true false c = refl
      by false b c = refl

  upgrade_none : (vs : List PlainVpkg) → none_violated s (flat_map (entry_instances s.problem.request) (enumerate_from 1 vs)) ≡ list_all (is_upgraded s.initial s.proposed) vs
  upgrade_none vs = list_all-flat_map (λ i. not (is_violated s i)) (entry_instances s.problem.request) (enumerate_from 1 vs)
      ∙ list_all-same (λ e. none_violated s (entry_instances s.problem.request e)) (λ e. is_upgraded s.initial s.proposed e.1) entry_none (enumerate_from 1 vs)
      ∙ list_all-enumerate (is_upgraded s.initial s.proposed) 1 vs

  request_none : none_violated s (request_instances s.problem.request)
      ≡ ((list_all (satisfies s.proposed) s.problem.request.install && list_all (λ v. not (satisfies s.proposed v)) s.problem.request.remove) && list_all (is_upgraded s.initial s.proposed) s.problem.request.upgrade)
  request_none =
      let r = s.problem.request in
      let inst = of_each (install_instance r) r.install in
      let rem = of_each (remove_instance r) r.remove in
      none-append s (inst ++ rem) (flat_map (entry_instances r) (enumerate_from 1 r.upgrade))
      ∙ ap (λ b. b && none_violated s (flat_map (entry_instances r) (enumerate_from 1 r.upgrade))) (none-append s inst rem)
      ∙ (λ i. (none-each s (install_instance r) (satisfies s.proposed) (λ n v. not_not (satisfies s.proposed v)) r.install i
      && none-each s (remove_instance r) (λ v. not (satisfies s.proposed v)) (λ n v. refl) r.remove i) && upgrade_none r.upgrade i)

  -- an unknown stanza is always violated
  unknown_none : (us : List PlainUnknown) → none_violated s (map unknown_instance us) ≡ is_empty us
  unknown_none [] = refl
  unknown_none (u ∷ us) = refl

-- ---- all

regroup : (q i r g : Bool) → (((q && i) && r) && g) ≡ (q && ((i && r) && g))
regroup true i r g = refl
regroup false i r g = refl

shuffle : (u d c k i r g : Bool) → ((((((u && d) && c) && k) && i) && r) && g) ≡ ((((d && c) && k) && ((i && r) && g)) && u)
shuffle true d c k i r g = regroup ((d && c) && k) i r g ∙ sym (and_true (((d && c) && k) && ((i && r) && g)))
shuffle false d c k i r g = sym (and_false (((d && c) && k) && ((i && r) && g)))

pub solution_is_empty : (problem : PlainProblem) (was_installed is_installed : ℕ → Bool) (unknown : List PlainUnknown)
    → is_solution (proposal problem was_installed is_installed unknown) ≡ is_empty (listing (proposal problem was_installed is_installed unknown))
unfolding listing is_solution
solution_is_empty problem was_installed is_installed unknown =
    let s = proposal problem was_installed is_installed unknown in
    let own = flat_map (package_instances s) (enumerate_from 1 s.problem.packages) in
    let asked = request_instances s.problem.request in
    shuffle (is_empty s.unknown) (list_all (has_its_depends s.proposed) s.proposed) (list_all (has_no_conflict s.proposed) s.proposed)
    (list_all (λ p. is_kept s.proposed p.1.keep p) s.initial)
    (list_all (satisfies s.proposed) s.problem.request.install) (list_all (λ v. not (satisfies s.proposed v)) s.problem.request.remove) (list_all (is_upgraded s.initial s.proposed) s.problem.request.upgrade)
    ∙ sym (is_empty-filter (is_violated s) (own ++ asked ++ map unknown_instance s.unknown)
    ∙ none-append s (own ++ asked) (map unknown_instance s.unknown)
    ∙ ap (λ b. b && none_violated s (map unknown_instance s.unknown)) (none-append s own asked)
    ∙ (λ i. (packages_none s was_installed is_installed refl refl i && request_none s i) && unknown_none s s.unknown i))
