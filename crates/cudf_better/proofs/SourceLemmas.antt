-- Items by places, and by packages.
use Rattle.std.proofs.Common.{◌≡◌, ℕ, suc, ◌+◌, ◌-◌, ◌<◌, ◌^◌, ◌==◌, Bool, true, false, not, cond, List, [], ◌∷◌, ◌++◌, length, get_or, map, filter, refl, sym, subst, ap, ◌∙◌, arith}
use Rattle.std.specs.Prelude.{All, Some, None, slice_get}
use Rattle.std.specs.Option.{option_map_or}
use Rattle.std.specs.List.{enumerate_from}
use Rattle.std.proofs.Common.{ne_eqb}
use Rattle.std.proofs.lemmas.Bool.{eqb-true}
use Rattle.std.proofs.lemmas.List.{append-nil}
use Rattle.std.proofs.lemmas.List.Elements.{All-cons, All-filter, All-head, All-nil, All-tail, All-weaker}
use Rattle.std.proofs.lemmas.Option.{slice_get-get_or}
use Rattle.cudf_problem.specs.Documents.{is_empty}
use Rattle.cudf_problem.specs.Universe.{PlainPackage, PlainProblem, package_at}
use Rattle.cudf_index.specs.Promises.Places.{is_named, places_where}
use Rattle.cudf_index.specs.Satisfaction.{Placed}
use Rattle.cudf_job.specs.declared.criteria.Count.TheVariants.{NotUpToDate}
use Rattle.cudf_lrat.specs.declared.cnf.Literal.{Literal}
use Rattle.cudf_referee.specs.Criteria.{greatest, versions_of}
use Rattle.cudf_referee.proofs.ListLemmas.{filter-map}
use Rattle.cudf_cnf.specs.Cnf.{is_in, is_out, one_of}
use Rattle.cudf_cnf.specs.Working.Parts.{IsPlace}
use Rattle.cudf_cnf.proofs.PlaceLemmas.{found_places, map-map, one_of-where}
use Rattle.cudf_cnf.proofs.ProblemLemmas.{problem_fits}
use Rattle.cudf_better.specs.Better.{Item, all_packages, changed_item, changes, has_item, item, outdated_item}
use Rattle.cudf_better.specs.Working.Sources.{change_at, is_version_at, name_items, version_at}

-- ---- places

pub small_places : (packages : List PlainPackage) (all : List Placed) (test : Placed → Bool) (found : List ℕ) → all ≡ enumerate_from 1 packages → length packages < 2 ^ 32 → found ≡ places_where test all → All (λ n. n < 2 ^ 32) found
small_places packages all test found every few is =
    All-weaker (IsPlace (length packages)) (λ n. n < 2 ^ 32) (λ n p. p.small) found (found_places (length packages) test all found (problem_fits (length packages) packages all every few refl) is)

-- what holds of each package beside its place
each_placed : (P : Placed → Type 0) (n : ℕ) (xs : List PlainPackage) → ((i : ℕ) (d : PlainPackage) → i < length xs → P (n + i, get_or xs i d)) → All P (enumerate_from n xs)
each_placed P n [] h = All-nil P
each_placed P n (x ∷ xs) h =
    All-cons P (n, x) (enumerate_from (n + 1) xs) (subst (λ (m : ℕ). P (m, x)) {x = n + 0} {y = n} (omega arith) (h 0 x (omega arith)))
    (each_placed P (n + 1) xs (λ i d lt. subst (λ (m : ℕ). P (m, get_or xs i d)) {x = n + suc i} {y = n + 1 + i} (omega arith) (h (suc i) d (omega arith))))

-- what is made of places, and of packages
map_same : {A B C : Type 0} (f : B → C) (h : A → B) (g : A → C) (xs : List A) → All (λ x. f (h x) ≡ g x) xs → map f (map h xs) ≡ map g xs
map_same f h g [] same = refl
map_same {A} f h g (x ∷ xs) same =
    let P : A → Type 0 = λ x. f (h x) ≡ g x in
    λ i. All-head P x xs same i ∷ map_same f h g xs (All-tail P x xs same) i

filter_same_on : {A : Type 0} (p q : A → Bool) (xs : List A) → All (λ x. p x ≡ q x) xs → filter p xs ≡ filter q xs
filter_same_on p q [] same = refl
filter_same_on {A} p q (x ∷ xs) same =
    let P : A → Type 0 = λ x. p x ≡ q x in
    let more = filter_same_on p q xs (All-tail P x xs same) in
    λ i. cond (All-head P x xs same i) (x ∷ more i) (more i)

module _ (problem : PlainProblem) where
  abbrev ps : List PlainPackage
  ps = problem.packages

  abbrev all : List Placed
  all = all_packages problem

  pub place_at : (i : ℕ) (d : PlainPackage) → i < length ps → package_at problem (1 + i) ≡ Some (get_or ps i d)
  place_at i d lt =
      (λ j. cond (ne_eqb (1 + i) 0 (λ e. omega arith) j) None (slice_get ps (1 + i - 1)))
      ∙ ap (slice_get ps) {x = 1 + i - 1} {y = i} (omega arith) ∙ slice_get-get_or ps i d lt

  changes_same : All (λ (q : Placed). change_at problem q.0 ≡ changes q) all
  changes_same = each_placed (λ (q : Placed). change_at problem q.0 ≡ changes q) 1 ps
      (λ i d lt. ap (λ (o : Bool). cond o (is_out (1 + i)) (is_in (1 + i))) (ap (λ o. option_map_or (λ (p : PlainPackage). p.installed) o false) (place_at i d lt)))

  versions_same : All (λ (q : Placed). version_at problem q.0 ≡ q.1.version) all
  versions_same = each_placed (λ (q : Placed). version_at problem q.0 ≡ q.1.version) 1 ps
      (λ i d lt. ap (λ o. option_map_or (λ (p : PlainPackage). p.version) o 0) (place_at i d lt))

  -- ---- the items of a name

  pub has_put : (every : List Placed) (places : List ℕ) (some : List Literal) (name : List ℕ) → every ≡ all → places ≡ places_where (is_named name) every → some ≡ map is_in places → item some [] ≡ has_item problem name
  has_put every places some name same found is =
      ap (λ (ls : List Literal). item ls []) (is ∙ ap (map is_in) found ∙ one_of-where (is_named name) every ∙ ap (one_of (is_named name)) same)

  pub changed_put : (every : List Placed) (places : List ℕ) (some : List Literal) (name : List ℕ) → every ≡ all → places ≡ places_where (is_named name) every → some ≡ map (change_at problem) places
      → item some [] ≡ changed_item problem name
  changed_put every places some name same found is =
      let P : Placed → Type 0 = λ q. change_at problem q.0 ≡ changes q in
      ap (λ (ls : List Literal). item ls [])
      (is ∙ ap (map (change_at problem)) (found ∙ ap (places_where (is_named name)) same)
      ∙ map_same (change_at problem) (λ (q : Placed). q.0) changes (filter (is_named name) all) (All-filter (is_named name) P all changes_same))

  -- the packages of a name
  abbrev own : List ℕ → List Placed
  own name = filter (is_named name) all

  own_versions : (name : List ℕ) → All (λ (q : Placed). version_at problem q.0 ≡ q.1.version) (own name)
  own_versions name = All-filter (is_named name) (λ (q : Placed). version_at problem q.0 ≡ q.1.version) all versions_same

  latest_of : (name : List ℕ) → greatest (map (version_at problem) (places_where (is_named name) all)) ≡ greatest (versions_of name all)
  latest_of name = ap greatest (map_same (version_at problem) (λ (q : Placed). q.0) (λ q. q.1.version) (own name) (own_versions name))

  abbrev latest : List ℕ → ℕ
  latest name = greatest (versions_of name all)

  -- those of one version, and the others
  of_version : (test : Bool → Bool) (name : List ℕ) (version : ℕ) → map is_in (filter (λ n. test (is_version_at problem version n)) (places_where (is_named name) all)) ≡ one_of (λ q. test (q.1.version == version)) (own name)
  of_version test name version =
      ap (map is_in) (filter-map (λ (n : ℕ). test (is_version_at problem version n)) (λ (q : Placed). q.0) (own name))
      ∙ map-map is_in (λ (q : Placed). q.0) (filter (λ (q : Placed). test (is_version_at problem version q.0)) (own name))
      ∙ ap (map (λ (q : Placed). is_in q.0))
      (filter_same_on (λ (q : Placed). test (is_version_at problem version q.0)) (λ q. test (q.1.version == version)) (own name)
      (All-weaker (λ (q : Placed). version_at problem q.0 ≡ q.1.version) (λ q. test (is_version_at problem version q.0) ≡ test (q.1.version == version)) (λ q same. ap (λ (m : ℕ). test (m == version)) same) (own name) (own_versions name)))

  pub version_found : (every : List Placed) (places : List ℕ) (name : List ℕ) (version : ℕ) → every ≡ all → places ≡ places_where (is_named name) every → version ≡ greatest (map (version_at problem) places) → version ≡ latest name
  version_found every places name version same found is = is ∙ ap (λ (ns : List ℕ). greatest (map (version_at problem) ns)) (found ∙ ap (places_where (is_named name)) same) ∙ latest_of name

  pub others_found : (every : List Placed) (others : List ℕ) (kept : List ℕ) (name : List ℕ) (version : ℕ) → every ≡ all → others ≡ places_where (is_named name) every → version ≡ latest name
      → kept ≡ filter (λ n. not (is_version_at problem version n)) others → map is_in kept ≡ (outdated_item problem name).some
  others_found every others kept name version same found top is =
      ap (map is_in) (is ∙ ap (filter (λ n. not (is_version_at problem version n))) (found ∙ ap (places_where (is_named name)) same))
      ∙ of_version not name version ∙ ap (λ (v : ℕ). one_of (λ q. not (q.1.version == v)) (own name)) top

  pub latest_found : (every : List Placed) (places : List ℕ) (kept : List ℕ) (name : List ℕ) (version : ℕ) → every ≡ all → places ≡ places_where (is_named name) every → version ≡ latest name
      → kept ≡ filter (is_version_at problem version) places → map is_in kept ≡ (outdated_item problem name).none
  latest_found every places kept name version same found top is =
      ap (map is_in) (is ∙ ap (filter (is_version_at problem version)) (found ∙ ap (places_where (is_named name)) same))
      ∙ of_version (λ b. b) name version ∙ ap (λ (v : ℕ). one_of (λ q. q.1.version == v) (own name)) top

  -- a change, by an index
  pub change_is : (i : ℕ) (d : PlainPackage) → i < length ps → change_at problem (i + 1) ≡ changes (i + 1, get_or ps i d)
  change_is i d lt =
      let at = ap (package_at problem) {x = i + 1} {y = 1 + i} (omega arith) ∙ place_at i d lt in
      ap (λ (o : Bool). cond o (is_out (i + 1)) (is_in (i + 1))) (ap (λ o. option_map_or (λ (p : PlainPackage). p.installed) o false) at)

  -- no other version than the greatest
  pub outdated_none : (name : List ℕ) (kept : List ℕ) (old : List Item) → map is_in kept ≡ (outdated_item problem name).some → (length kept == 0) ≡ true → old ≡ old ++ name_items problem NotUpToDate name
  outdated_none name kept old others none =
      sym (append-nil old) ∙ ap (λ (ls : List Literal). old ++ cond (is_empty ls) [] (outdated_item problem name ∷ [])) (ap (map is_in) (sym (nothing kept none)) ∙ others)
    where
      nothing : (ns : List ℕ) → (length ns == 0) ≡ true → ns ≡ []
      nothing [] h = refl
      nothing (n ∷ ns) h = let none : length (n ∷ ns) ≡ 0 = eqb-true (length (n ∷ ns)) 0 h in absurd (omega arith)

  pub outdated_put : (name : List ℕ) (kept : List ℕ) (old : List Item) → map is_in kept ≡ (outdated_item problem name).some → (length kept == 0) ≡ false → old ++ outdated_item problem name ∷ [] ≡ old ++ name_items problem NotUpToDate name
  outdated_put name kept old others some =
      ap (λ b. old ++ cond b [] (outdated_item problem name ∷ [])) (sym (is_some kept some)) ∙ ap (λ (ls : List Literal). old ++ cond (is_empty ls) [] (outdated_item problem name ∷ [])) others
    where
      is_some : (ns : List ℕ) → (length ns == 0) ≡ false → is_empty (map is_in ns) ≡ false
      is_some [] some = cc
      is_some (n ∷ ns) some = refl
