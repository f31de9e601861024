-- The standing of a name, with one more package.
use Rattle.std.proofs.Common.{◌≡◌, ℕ, ◌+◌, ◌<◌, ◌≤◌, max, Bool, true, false, not, ◌&&◌, ◌||◌, ◌==◌, nat_lt, cond, subst, position, Some, List, [], ◌∷◌, ◌++◌, length, get_or, take, map, filter, ◌^◌, bytes_eq, if◌then◌else◌, refl, ap, sym, ◌∙◌, arith}
use Rattle.std.specs.Prelude.{replicate}
use Rattle.std.proofs.Math.ListN.{set}
use Rattle.std.specs.List.{list_any, list_all, count_by, enumerate_from, IsDistinct}
use Rattle.std.proofs.lemmas.Bool.{true≢false, ltb-true, ltb-false, eqb-true, eqb-false, false_from_ne_true}
use Rattle.std.proofs.lemmas.Map.Made.{AllPairs-from_IsDistinct}
use Rattle.std.proofs.lemmas.List.Quantifiers.{position-Some}
use Rattle.std.proofs.lemmas.Slice.Eq.{bytes_eq-Decides}
use Rattle.std.proofs.lemmas.List.{append_assoc, same_lists, length-set, get_or-set_same, get_or-set_other, append-nil, length-map, take-map, get_or-map, length-take-le, map_push, take_more}
use Rattle.std.proofs.lemmas.List.Elements.{filter-append}
use Rattle.std.proofs.lemmas.List.Folds.{list_any-append, list_all-append}
use Rattle.indexmap.specs.IndexSet.{insert_all}
use Rattle.cudf_problem.specs.Promises.Names.{names_in}
use Rattle.cudf_problem.specs.Promises.Packages.{are_distinct}
use Rattle.cudf_problem.specs.Ids.{is_among as is_among_ids}
use Rattle.cudf_problem.specs.Universe.{PlainPackage, package_id}
use Rattle.cudf_problem.proofs.IdLemmas.{distinct-at}
use Rattle.std.proofs.lemmas.Cmp.{nat_list_eq_equiv}
use Rattle.cudf_problem.specs.Documents.{is_empty}
use Rattle.cudf_problem.proofs.ListLemmas.{list_any-map}
use Rattle.cudf_index.specs.Satisfaction.{Placed}
use Rattle.cudf_referee.specs.declared.counting.Standing.{Standing}
use Rattle.cudf_referee.specs.Criteria.{each_once, versions_of, is_number_among, is_same_set, greatest, at_most_max}
use Rattle.cudf_referee.specs.Violations.{has_package}
use Rattle.cudf_referee.specs.Working.Standings.{no_standing, differ, standing_with, held, names_of, standing_of, standings_of}
use Rattle.cudf_referee.proofs.EntryLemmas.{enumerate-push}
use Rattle.cudf_referee.proofs.ListLemmas.{and_false, and_true, count-map, is_empty-map, is_empty-filter, list_any-none}
use Rattle.cudf_referee.proofs.NameLemmas.{same_text, text_same, once_push, distinct-once}
use Rattle.std.proofs.lemmas.Grind.{common_steps}
use Rattle.std.proofs.lemmas.Bool.Decides.{nat_tests}

-- ---- truth

or_false : (a : Bool) → (a || false) ≡ a
or_false a = grind (arith, common_steps)

-- ---- sets of numbers

-- a number more is as none, where it isn't asked about
among_more : (ys : List ℕ) (v : ℕ) (zs : List ℕ) → is_number_among zs v ≡ false → list_all (is_number_among (ys ++ v ∷ [])) zs ≡ list_all (is_number_among ys) zs
among_more ys v [] none = refl
among_more ys v (z ∷ zs) none = grind (arith, common_steps, nat_tests, among_more ys v zs, list_any-append (λ m. m == z) ys (v ∷ []))

-- a version more of one status or of both
same_push : (xs ys : List ℕ) (v : ℕ) (a b : Bool) → is_number_among xs v ≡ false → is_number_among ys v ≡ false
    → not (is_same_set (xs ++ cond a (v ∷ []) []) (ys ++ cond b (v ∷ []) [])) ≡ (not (is_same_set xs ys) || differ a b)
same_push xs ys v true true new_x new_y = grind (
  arith,
  common_steps,
  nat_tests,
  list_all-append (is_number_among (ys ++ v ∷ [])) xs (v ∷ []),
  list_all-append (is_number_among (xs ++ v ∷ [])) ys (v ∷ []),
  among_more ys v xs new_x,
  among_more xs v ys new_y,
  list_any-append (λ m. m == v) ys (v ∷ []),
  list_any-append (λ m. m == v) xs (v ∷ []),
)
same_push xs ys v true false new_x new_y = rw append-nil (grind (arith, common_steps, list_all-append (is_number_among ys) xs (v ∷ [])))
same_push xs ys v false true new_x new_y = rw append-nil (grind (arith, common_steps, list_all-append (is_number_among xs) ys (v ∷ [])))
same_push xs ys v false false new_x new_y = (λ i. not (is_same_set (append-nil xs i) (append-nil ys i))) ∙ sym (or_false (not (is_same_set xs ys)))

greatest_push : (xs : List ℕ) (v : ℕ) → greatest (xs ++ v ∷ []) ≡ max (greatest xs) v
greatest_push [] v = omega arith
greatest_push (x ∷ xs) v = ap (max x) (greatest_push xs v) ∙ omega arith

greatest_if : (xs : List ℕ) (v : ℕ) (b : Bool) → greatest (xs ++ cond b (v ∷ []) []) ≡ max (greatest xs) (if b then v else 0)
greatest_if xs v true = greatest_push xs v
greatest_if xs v false = ap greatest (append-nil xs) ∙ omega arith

-- ---- packages of a name

has-push : (xs : List Placed) (p : Placed) (b : Bool) (f : List ℕ) → has_package (xs ++ cond b (p ∷ []) []) f ≡ (has_package xs f || (b && bytes_eq p.1.name f))
has-push xs p b f = grind (arith, common_steps, list_any-append (λ q. bytes_eq q.1.name f) xs (cond b (p ∷ []) []))

versions-push : (xs : List Placed) (p : Placed) (b : Bool) (f : List ℕ) → versions_of f (xs ++ cond b (p ∷ []) []) ≡ versions_of f xs ++ cond (b && bytes_eq p.1.name f) (p.1.version ∷ []) []
versions-push [] p b f = grind (arith, common_steps)
versions-push (x ∷ xs) p b f = grind (arith, common_steps, versions-push xs p b f)

held-push : (t : ℕ → Bool) (xs : List Placed) (p : Placed) → held t (xs ++ p ∷ []) ≡ held t xs ++ cond (t p.0) (p ∷ []) []
held-push t xs p = filter-append (λ (q : Placed). t q.0) xs (p ∷ [])

abbrev is_named : List ℕ → Placed → Bool
is_named f p = bytes_eq p.1.name f

any_less : {A : Type 0} (p q : A → Bool) (xs : List A) → list_any p xs ≡ false → list_any p (filter q xs) ≡ false
any_less p q [] none = refl
any_less p q (x ∷ xs) none = grind (arith, common_steps, any_less p q xs)

-- what isn't among all versions isn't among those of a status
fresh_held : (t : ℕ → Bool) (f : List ℕ) (v : ℕ) (xs : List Placed) → is_number_among (versions_of f xs) v ≡ false → is_number_among (versions_of f (held t xs)) v ≡ false
fresh_held t f v [] fresh = refl
fresh_held t f v (x ∷ xs) fresh = grind (arith, common_steps, fresh_held t f v xs)

-- ---- one package more

-- the standing of a name to which a package was added, where it is one of the name
abbrev grown : (ℕ → Bool) → (ℕ → Bool) → List Placed → Placed → List ℕ → Bool → Standing
grown was is xs p f own = record {
  was_installed = has_package (held was xs) f || (was p.0 && own);
  is_installed = has_package (held is xs) f || (is p.0 && own);
  is_changed = not (is_same_set (versions_of f (held was xs) ++ cond (was p.0 && own) (p.1.version ∷ []) []) (versions_of f (held is xs) ++ cond (is p.0 && own) (p.1.version ∷ []) []));
  greatest = greatest (versions_of f xs ++ cond own (p.1.version ∷ []) []);
  greatest_installed = greatest (versions_of f (held is xs) ++ cond (is p.0 && own) (p.1.version ∷ []) []);
}

standing-push : (was is : ℕ → Bool) (xs : List Placed) (p : Placed) (f : List ℕ) → standing_of was is (xs ++ p ∷ []) f ≡ grown was is xs p f (bytes_eq p.1.name f)
standing-push was is xs p f =
    let has = λ (t : ℕ → Bool). ap (λ ps. has_package ps f) (held-push t xs p) ∙ has-push (held t xs) p (t p.0) f in
    let versions = λ (t : ℕ → Bool). ap (versions_of f) (held-push t xs p) ∙ versions-push (held t xs) p (t p.0) f in
    λ i. record {
      was_installed = has was i;
      is_installed = has is i;
      is_changed = not (is_same_set (versions was i) (versions is i));
      greatest = greatest (versions-push xs p true f i);
      greatest_installed = greatest (versions is i);
    }

-- another name keeps its standing
grown_other : (was is : ℕ → Bool) (xs : List Placed) (p : Placed) (f : List ℕ) → grown was is xs p f false ≡ standing_of was is xs f
grown_other was is xs p f =
    let has = λ (t : ℕ → Bool). ap (λ b. has_package (held t xs) f || b) (and_false (t p.0)) ∙ or_false (has_package (held t xs) f) in
    let versions = λ (t : ℕ → Bool). ap (λ b. versions_of f (held t xs) ++ cond b (p.1.version ∷ []) []) (and_false (t p.0)) ∙ append-nil (versions_of f (held t xs)) in
    λ i. record {
      was_installed = has was i;
      is_installed = has is i;
      is_changed = not (is_same_set (versions was i) (versions is i));
      greatest = greatest (append-nil (versions_of f xs) i);
      greatest_installed = greatest (versions is i);
    }

-- its own name gets one package more
grown_own : (was is : ℕ → Bool) (xs : List Placed) (p : Placed) (f : List ℕ) → is_number_among (versions_of f xs) p.1.version ≡ false
    → grown was is xs p f true ≡ standing_with (standing_of was is xs f) p.1.version (was p.0) (is p.0)
grown_own was is xs p f fresh =
    λ i. record {
      was_installed = has_package (held was xs) f || and_true (was p.0) i;
      is_installed = has_package (held is xs) f || and_true (is p.0) i;
      is_changed = ((λ j. not (is_same_set (versions_of f (held was xs) ++ cond (and_true (was p.0) j) (p.1.version ∷ []) []) (versions_of f (held is xs) ++ cond (and_true (is p.0) j) (p.1.version ∷ []) [])))
          ∙ same_push (versions_of f (held was xs)) (versions_of f (held is xs)) p.1.version (was p.0) (is p.0) (fresh_held was f p.1.version xs fresh) (fresh_held is f p.1.version xs fresh)) i;
      greatest = greatest_push (versions_of f xs) p.1.version i;
      greatest_installed = ((λ j. greatest (versions_of f (held is xs) ++ cond (and_true (is p.0) j) (p.1.version ∷ []) [])) ∙ greatest_if (versions_of f (held is xs)) p.1.version (is p.0)) i;
    }

-- ---- names and their packages

-- a name is there where a package has it, and then it has a version
named : (f : List ℕ) (xs : List Placed) → list_any (bytes_eq f) (map (λ p. p.1.name) xs) ≡ has_package xs f
named f xs = list_any-map (λ p. p.1.name) (bytes_eq f) xs ∙ ap (λ t. list_any t xs) (λ i p. nat_list_eq_equiv.symm f p.1.name i)

empty-versions : (f : List ℕ) (xs : List Placed) → is_empty (versions_of f xs) ≡ not (has_package xs f)
empty-versions f xs = is_empty-map (λ (p : Placed). p.1.version) (filter (is_named f) xs) ∙ is_empty-filter (is_named f) xs ∙ sym (list_any-none (is_named f) xs)

no_versions : (vs : List ℕ) → is_empty vs ≡ true → vs ≡ []
no_versions [] h = refl
no_versions (v ∷ vs) h = absurd (cc h)

-- ---- the standings of some names, with one package more

module _ (was is : ℕ → Bool) (xs : List Placed) (p : Placed) where
  pub standing-other : (g : List ℕ) → bytes_eq p.1.name g ≡ false → standing_of was is (xs ++ p ∷ []) g ≡ standing_of was is xs g
  standing-other g e = standing-push was is xs p g ∙ ap (grown was is xs p g) e ∙ grown_other was is xs p g

  pub standing-own : is_number_among (versions_of p.1.name xs) p.1.version ≡ false
      → standing_of was is (xs ++ p ∷ []) p.1.name ≡ standing_with (standing_of was is xs p.1.name) p.1.version (was p.0) (is p.0)
  standing-own fresh = standing-push was is xs p p.1.name ∙ ap (grown was is xs p p.1.name) (text_same p.1.name p.1.name refl) ∙ grown_own was is xs p p.1.name fresh

-- ---- packages that come in turn

among_versions : (name : List ℕ) (version k : ℕ) (xs : List PlainPackage) → is_among_ids (map package_id xs) (name, version) ≡ false
    → is_number_among (versions_of name (enumerate_from k xs)) version ≡ false
among_versions name version k [] fresh = refl
among_versions name version k (x ∷ xs) fresh =
    grind (arith, common_steps, nat_tests, among_versions name version (k + 1) xs, nat_list_eq_equiv.symm name x.name)

-- of packages with distinct pairs, the next one's version is new to its name
fresh_at : (ps : List PlainPackage) (i : ℕ) (d : PlainPackage) → are_distinct (map package_id ps) ≡ true → i < length ps
    → is_number_among (versions_of (get_or ps i d).name (enumerate_from 1 (take i ps))) (get_or ps i d).version ≡ false
fresh_at ps i d distinct within =
    among_versions (get_or ps i d).name (get_or ps i d).version 1 (take i ps)
    ((λ j. is_among_ids (sym (take-map package_id i ps) j) (sym (get_or-map package_id ps i d (package_id d) within) j))
    ∙ distinct-at (map package_id ps) i (package_id d) distinct (omega (arith, length-map ps package_id)))

module _ {A : Type 0} (view : A → PlainPackage) where
  -- the same of what packages are seen as
  pub next_fresh : (xs : List A) (ps : List PlainPackage) (i : ℕ) (item : A) → map view xs ≡ ps → are_distinct (map package_id ps) ≡ true → i < length xs → item ≡ get_or xs i item
      → is_number_among (versions_of (view item).name (enumerate_from 1 (map view (take i xs)))) (view item).version ≡ false
  next_fresh xs ps i item seen distinct within is =
      let same : get_or (map view xs) i (view item) ≡ view item = get_or-map view xs i item (view item) within ∙ ap view (sym is) in
      (λ j. is_number_among (versions_of (sym same j).name (enumerate_from 1 (sym (take-map view i xs) j))) (sym same j).version)
      ∙ fresh_at (map view xs) i (view item) (ap (λ l. are_distinct (map package_id l)) seen ∙ distinct) (omega (arith, length-map xs view))

  pub next_places : (xs : List A) (i : ℕ) (item : A) → i < length xs → item ≡ get_or xs i item
      → enumerate_from 1 (map view (take i xs)) ++ (i + 1, view item) ∷ [] ≡ enumerate_from 1 (map view (take (i + 1) xs))
  next_places xs i item within is =
      let long : 1 + length (map view (take i xs)) ≡ i + 1 = omega (arith, length-map (take i xs) view, length-take-le i xs (omega arith)) in
      (λ j. enumerate_from 1 (map view (take i xs)) ++ (sym long j, view item) ∷ [])
      ∙ sym (enumerate-push 1 (map view (take i xs)) (view item))
      ∙ ap (enumerate_from 1) (ap (λ x. map view (take i xs) ++ view x ∷ []) is ∙ sym (map_push view (take i xs) (get_or xs i item)) ∙ ap (map view) (sym (take_more xs i item within)))

-- ---- counting

pub capped : (n : ℕ) → n < 2 ^ 64 → at_most_max n ≡ n
capped n small = omega arith

-- the greatest is one of them
greatest_among : (xs : List ℕ) (x : ℕ) → is_number_among (x ∷ xs) (greatest (x ∷ xs)) ≡ true
greatest_among [] x = grind (arith, nat_tests)
greatest_among (y ∷ ys) x = grind (arith, nat_tests, greatest_among ys y)

among_least : (xs : List ℕ) (n : ℕ) → is_number_among xs n ≡ true → n ≤ greatest xs
among_least [] n h = absurd (true≢false (sym h))
among_least (x ∷ xs) n h = grind (arith, nat_tests, among_least xs n)

held_least : (t : ℕ → Bool) (f : List ℕ) (xs : List Placed) → greatest (versions_of f (held t xs)) ≤ greatest (versions_of f xs)
held_least t f [] = omega arith
held_least t f (x ∷ xs) = grind (arith, common_steps, held_least t f xs)

-- a name with a package has a version
some_version : (f : List ℕ) (xs : List Placed) → has_package xs f ≡ true → versions_of f xs ≡ [] → ⊥
some_version f xs has none = true≢false (sym (ap is_empty none) ∙ empty-versions f xs ∙ ap not has)

pub outdated : (is : ℕ → Bool) (xs : List Placed) (f : List ℕ)
    → (has_package (held is xs) f && nat_lt (greatest (versions_of f (held is xs))) (greatest (versions_of f xs)))
    ≡ (has_package (held is xs) f && not (is_number_among (versions_of f (held is xs)) (greatest (versions_of f xs))))
outdated is xs f = by (has_package (held is xs) f) refl
  where
    least : (vs : List ℕ) (top : ℕ) → greatest vs ≤ top → (vs ≡ [] → ⊥) → (b : Bool) → is_number_among vs top ≡ b → nat_lt (greatest vs) top ≡ not b
    least [] top up some b among = absurd (some refl)
    least (v ∷ vs) top up some b among = grind (arith, nat_tests, among_least (v ∷ vs) top, greatest_among vs v)

    by : (b : Bool) → has_package (held is xs) f ≡ b
        → (b && nat_lt (greatest (versions_of f (held is xs))) (greatest (versions_of f xs))) ≡ (b && not (is_number_among (versions_of f (held is xs)) (greatest (versions_of f xs))))
    by true e = least (versions_of f (held is xs)) (greatest (versions_of f xs)) (held_least is f xs) (some_version f (held is xs) e) (is_number_among (versions_of f (held is xs)) (greatest (versions_of f xs))) refl
    by false e = refl

-- ---- what is counted of all names

-- the count of the names of a status's universe, from the standings
pub names_counted : (was is : ℕ → Bool) (xs : List Placed) (rows : List Standing) (result : ℕ) (test : Standing → Bool) (named : List ℕ → Bool)
    → rows ≡ standings_of was is xs → ((f : List ℕ) → test (standing_of was is xs f) ≡ named f) → result ≡ count_by test rows → result < 2 ^ 64
    → result ≡ at_most_max (count_by named (names_of xs))
names_counted was is xs rows result test named rows_are same counted small =
    sym (capped result small)
    ∙ ap at_most_max (counted ∙ ap (count_by test) rows_are ∙ count-map test (standing_of was is xs) (names_of xs) ∙ ap (λ p. count_by p (names_of xs)) (λ i f. same f i))

-- ---- standings by the numbers of names

-- a list of what there is of each name, where it changes for one of them
set_named : (F F' : List ℕ → Standing) (name : List ℕ) (names : List (List ℕ)) (n : ℕ) (new : Standing) → IsDistinct bytes_eq names → position (bytes_eq name) names ≡ Some n
    → new ≡ F' name → ((f : List ℕ) → bytes_eq name f ≡ false → F' f ≡ F f) → set (map F names) n new ≡ map F' names
set_named F F' name names n new distinct at here other =
    same_lists (set (map F names) n new) (map F' names) (length-set (map F names) n new ∙ length-map names F ∙ sym (length-map names F'))
    (λ k d lt. by k d (omega (arith, lt, length-set (map F names) n new, length-map names F)) (k == n) refl)
  where
    found : (n < length names) × (bytes_eq name (get_or names n []) ≡ true) × ((k : ℕ) → k < n → bytes_eq name (get_or names k []) ≡ false)
    found = position-Some (bytes_eq name) names n [] at

    apart : (i j : ℕ) → i < j → j < length names → get_or names i [] ≡ get_or names j [] → ⊥
    apart i j lt inside = AllPairs-from_IsDistinct bytes_eq-Decides names distinct i j [] lt inside

    differs : (k : ℕ) → k < length names → (k ≡ n → ⊥) → bytes_eq name (get_or names k []) ≡ false
    differs k inside ne =
        false_from_ne_true (bytes_eq name (get_or names k [])) (λ h.
        let same : get_or names n [] ≡ get_or names k [] = sym (same_text name (get_or names n []) found.1) ∙ same_text name (get_or names k []) h in
        by (nat_lt k n) refl same)
      where
        by : (b : Bool) → nat_lt k n ≡ b → get_or names n [] ≡ get_or names k [] → ⊥
        by true e same = apart k n (ltb-true k n e) found.0 (sym same)
        by false e same = let least = ltb-false k n e in apart n k (omega (arith, least, ne)) inside same

    by : (k : ℕ) (d : Standing) → k < length names → (b : Bool) → (k == n) ≡ b → get_or (set (map F names) n new) k d ≡ get_or (map F' names) k d
    by k d inside true e =
        ap (λ m. get_or (set (map F names) n new) m d) (eqb-true k n e)
        ∙ get_or-set_same (map F names) n new d (omega (arith, found.0, length-map names F))
        ∙ here ∙ ap F' (same_text name (get_or names n []) found.1) ∙ ap (λ m. F' (get_or names m [])) (sym (eqb-true k n e)) ∙ sym (get_or-map F' names k [] d inside)
    by k d inside false e =
        get_or-set_other (map F names) n k new d (eqb-false k n e) ∙ get_or-map F names k [] d inside
        ∙ sym (other (get_or names k []) (differs k inside (eqb-false k n e))) ∙ sym (get_or-map F' names k [] d inside)

-- the names of a universe are those that have numbers
once-all : (ys xs : List (List ℕ)) → insert_all bytes_eq (each_once ys) xs ≡ each_once (ys ++ xs)
once-all ys [] = ap each_once (sym (append-nil ys))
once-all ys (x ∷ xs) = ap (λ ns. insert_all bytes_eq ns xs) (sym (once_push ys x)) ∙ once-all (ys ++ x ∷ []) xs ∙ ap each_once (append_assoc ys (x ∷ []) xs)

placed_names : (k : ℕ) (ps : List PlainPackage) → map (λ (p : Placed). p.1.name) (enumerate_from k ps) ≡ map (λ id. id.0) (map package_id ps)
placed_names k [] = refl
placed_names k (p ∷ ps) = ap (λ ns. p.name ∷ ns) (placed_names (k + 1) ps)

pub numbered_names : (ps : List PlainPackage) → names_in ps ≡ names_of (enumerate_from 1 ps)
numbered_names ps = once-all [] (map (λ id. id.0) (map package_id ps)) ∙ ap each_once (sym (placed_names 1 ps))

-- those of no packages are alike
pub none_standing : (names : List (List ℕ)) (was is : ℕ → Bool) → replicate (length names) no_standing ≡ map (standing_of was is []) names
none_standing [] was is = refl
none_standing (name ∷ names) was is = ap (λ rows. no_standing ∷ rows) (none_standing names was is)

-- one package more, in the standing of its name's number
pub standing_added : (was is : ℕ → Bool) (xs : List Placed) (p : Placed) (ps : List PlainPackage) (rows now : List Standing) (n : ℕ) → is_number_among (versions_of p.1.name xs) p.1.version ≡ false
    → Some n ≡ position (bytes_eq p.1.name) (names_in ps) → rows ≡ map (standing_of was is xs) (names_in ps)
    → ((d : Standing) → now ≡ set rows n (standing_with (get_or rows n d) p.1.version (was p.0) (is p.0))) → now ≡ map (standing_of was is (xs ++ p ∷ [])) (names_in ps)
standing_added was is xs p ps rows now n fresh at before added =
    added no_standing
    ∙ (λ i. set (before i) n (standing_with (standing i) p.1.version (was p.0) (is p.0)))
    ∙ set_named (standing_of was is xs) (standing_of was is (xs ++ p ∷ [])) p.1.name (names_in ps) n (standing_with (standing_of was is xs p.1.name) p.1.version (was p.0) (is p.0))
    (subst (IsDistinct bytes_eq) (sym (numbered_names ps)) (distinct-once (map (λ q. q.1.name) (enumerate_from 1 ps))))
    (sym at) (sym (standing-own was is xs p fresh)) (standing-other was is xs p)
  where
    found : (n < length (names_in ps)) × (bytes_eq p.1.name (get_or (names_in ps) n []) ≡ true) × ((k : ℕ) → k < n → bytes_eq p.1.name (get_or (names_in ps) k []) ≡ false)
    found = position-Some (bytes_eq p.1.name) (names_in ps) n [] (sym at)

    standing : get_or rows n no_standing ≡ standing_of was is xs p.1.name
    standing =
        ap (λ rs. get_or rs n no_standing) before ∙ get_or-map (standing_of was is xs) (names_in ps) n [] no_standing found.0
        ∙ ap (standing_of was is xs) (sym (same_text p.1.name (get_or (names_in ps) n []) found.1))

-- a number has a standing
pub standing_within : (was is : ℕ → Bool) (xs : List Placed) (ps : List PlainPackage) (rows : List Standing) (name : List ℕ) (n : ℕ) → Some n ≡ position (bytes_eq name) (names_in ps)
    → rows ≡ map (standing_of was is xs) (names_in ps) → n < length rows
standing_within was is xs ps rows name n at before =
    let found = position-Some (bytes_eq name) (names_in ps) n [] (sym at) in
    omega (arith, found.0, ap length before, length-map (names_in ps) (standing_of was is xs))
