-- Counts of what a status gives, and of what it gives without one package.
use Rattle.std.proofs.Common.{◌≡◌, ℕ, ◌+◌, ◌<◌, ◌≤◌, zero, suc, Bool, true, false, not, cond, ◌||◌, ◌&&◌, ◌==◌, List, [], ◌∷◌, ◌++◌, length, get_or, map, Option, Some, None, refl, sym, ap, ◌∙◌, arith, nat_lt, bytes_eq, subst, Bor}
use Rattle.std.specs.Prelude.{filter, filter_map, find, option_map, slice_get, if◌then◌else◌}
use Rattle.std.specs.Option.{option_map_or, is_some, IfSome}
use Rattle.std.proofs.lemmas.Option.{slice_get_past, slice_get_read}
use Rattle.std.proofs.Math.Dec.{ltb}
use Rattle.std.specs.List.{count_by, list_any, flat_map, cons_option, enumerate_from}
use Rattle.std.proofs.lemmas.Bool.{eqb-true, eq-eqb, ne_eqb, true≢false, ltb-true, ltb-false}
use Rattle.std.proofs.lemmas.Bool.Decides.{nat_tests}
use Rattle.std.proofs.lemmas.List.Recursion.{is_sum_by}
use Rattle.cudf_value.specs.declared.vpkg.Relop.{Relop}
use Rattle.cudf_value.specs.Vpkgs.{PlainVpkg, meets}
use Rattle.cudf_index.specs.declared.index.gathered_names.Entries.{Entries}
use Rattle.cudf_index.specs.Working.Kept.{Keeps, kept_numbers, kept_unversioned, is_met_by_entry, gives_all_of}
use Rattle.cudf_problem.specs.Universe.{PlainPackage}
use Rattle.cudf_index.specs.Promises.Places.{at}
use Rattle.cudf_index.specs.Satisfaction.{Placed, entry_pair, members, without, gives, gives_all_versions, package_pairs, unversioned_name, numbers_of, is_met_by, is_below_one, satisfies, meets_alone}
use Rattle.cudf_problem.specs.Ids.{Id}
use Rattle.cudf_index.proofs.SatisfactionLemmas.{member_alone}
use Rattle.cudf_index.proofs.SearchLemmas.{list_any-filter, none_narrowed}
use Rattle.cudf_index.proofs.CountLemmas.{count-cons, count-append, any-count, unless}

-- ---- counts of mapped and filtered lists

module _ {X Y : Type 0} where
  pub count-map : (p : Y → Bool) (h : X → Y) (xs : List X) → count_by p (map h xs) ≡ count_by (λ x. p (h x)) xs
  count-map p h xs = is_sum_by (λ ys. count_by p (map h ys)) (λ x. cond (p (h x)) 1 0) refl (λ x ys. count-cons p (h x) (map h ys)) xs

  pub count-filter_map : (p : Y → Bool) (h : X → Option Y) (xs : List X) → count_by p (filter_map h xs) ≡ count_by (λ x. option_map_or p (h x) false) xs
  count-filter_map p h xs = is_sum_by (λ ys. count_by p (filter_map h ys)) (λ x. cond (option_map_or p (h x) false) 1 0) refl (λ x ys. by (h x) ys) xs
    where
      by : (o : Option Y) (ys : List X) → count_by p (cons_option o (filter_map h ys)) ≡ cond (option_map_or p o false) 1 0 + count_by p (filter_map h ys)
      by None ys = omega arith
      by (Some y) ys = count-cons p y (filter_map h ys)

pub count-filter : {X : Type 0} (p q : X → Bool) (xs : List X) → count_by p (filter q xs) ≡ count_by (λ x. q x && p x) xs
count-filter {X} p q xs = is_sum_by (λ ys. count_by p (filter q ys)) (λ x. cond (q x && p x) 1 0) refl (λ x ys. by (q x) x ys) xs
  where
    by : (b : Bool) (x : X) (ys : List X) → count_by p (cond b (x ∷ filter q ys) (filter q ys)) ≡ cond (b && p x) 1 0 + count_by p (filter q ys)
    by true x ys = count-cons p x (filter q ys)
    by false x ys = omega arith

-- ---- satisfaction is a matter of counts

pub count-numbers : (v : PlainVpkg) (status : List Placed) → count_by (meets v.bound) (numbers_of v.name status) ≡ count_by (is_met_by v) (gives status)
count-numbers v status =
    count-map (meets v.bound) (λ pair. pair.1) (filter (λ pair. bytes_eq pair.0 v.name) (gives status))
    ∙ count-filter (λ pair. meets v.bound pair.1) (λ pair. bytes_eq pair.0 v.name) (gives status)

pub satisfies-counted : (status : List Placed) (v : PlainVpkg)
    → satisfies status v
    ≡ (nat_lt 0 (count_by (meets v.bound) (numbers_of v.name status))
    || (nat_lt 0 (count_by (λ given. bytes_eq given v.name) (gives_all_versions status)) && not (is_below_one v.bound)))
satisfies-counted status v =
    ap (λ b. b || (list_any (λ given. bytes_eq given v.name) (gives_all_versions status) && not (is_below_one v.bound))) (any-count (is_met_by v) (gives status) ∙ ap (nat_lt 0) (sym (count-numbers v status)))
    ∙ ap (λ b. nat_lt 0 (count_by (meets v.bound) (numbers_of v.name status)) || (b && not (is_below_one v.bound))) (any-count (λ given. bytes_eq given v.name) (gives_all_versions status))

-- more than those of the package, where the others and those are all
pub more_than_own : (all others own : ℕ) → all ≡ others + own → nat_lt own all ≡ nat_lt 0 others
more_than_own all others own e = grind (arith, nat_tests)

-- ---- a status less one package

module _ (holds : ℕ → Bool) where
  -- the packages that are held, the first at place n
  abbrev pub held : ℕ → List PlainPackage → List Placed
  held n packages = filter (λ p. holds p.0) (enumerate_from n packages)

  kept_all : (place n : ℕ) (xs : List PlainPackage) → place < n → without place (held n xs) ≡ held n xs
  kept_all place n [] below = refl
  kept_all place n (x ∷ xs) below = by (holds n) (kept_all place (n + 1) xs (omega arith))
    where
      by : (b : Bool) → without place (held (n + 1) xs) ≡ held (n + 1) xs → without place (cond b ((n, x) ∷ held (n + 1) xs) (held (n + 1) xs)) ≡ cond b ((n, x) ∷ held (n + 1) xs) (held (n + 1) xs)
      by false rest = rest
      by true rest = ap (λ b. cond (not b) ((n, x) ∷ without place (held (n + 1) xs)) (without place (held (n + 1) xs))) (ne_eqb n place (λ e. omega arith)) ∙ ap (λ ps. (n, x) ∷ ps) rest

  find_absent : (place n : ℕ) (xs : List PlainPackage) → ((k : ℕ) → n ≤ k → holds k ≡ true → (k == place) ≡ false) → find (λ q. q.0 == place) (held n xs) ≡ None
  find_absent place n [] other = refl
  find_absent place n (x ∷ xs) other = by (holds n) refl (find_absent place (n + 1) xs (λ k more. other k (omega arith)))
    where
      by : (b : Bool) → holds n ≡ b → find (λ q. q.0 == place) (held (n + 1) xs) ≡ None → find (λ q. q.0 == place) (cond b ((n, x) ∷ held (n + 1) xs) (held (n + 1) xs)) ≡ None
      by false e rest = rest
      by true e rest = ap (λ b. cond b (Some (n, x)) (find (λ q. q.0 == place) (held (n + 1) xs))) (other n (omega arith) e) ∙ rest

  pub find_below : (place n : ℕ) (xs : List PlainPackage) → place < n → find (λ q. q.0 == place) (held n xs) ≡ None
  find_below place n xs below = find_absent place n xs (λ k more is. ne_eqb k place (λ e. omega arith))

  pub find_unheld : (place n : ℕ) (xs : List PlainPackage) → holds place ≡ false → find (λ q. q.0 == place) (held n xs) ≡ None
  find_unheld place n xs not_held = find_absent place n xs (λ k more is. ne_eqb k place (λ same. true≢false (sym is ∙ ap holds same ∙ not_held)))

  pub find_at_place : (k n : ℕ) (xs : List PlainPackage) → holds (n + k) ≡ true → find (λ q. q.0 == n + k) (held n xs) ≡ option_map (λ x. (n + k, x)) (slice_get xs k)
  find_at_place k n [] e = refl
  find_at_place zero n (x ∷ xs) e =
      let same : n + 0 ≡ n = omega arith in
      ap (λ b. find (λ q. q.0 == n + 0) (cond b ((n, x) ∷ held (n + 1) xs) (held (n + 1) xs))) (sym (ap holds same) ∙ e)
      ∙ ap (λ b. cond b (Some (n, x)) (find (λ q. q.0 == n + 0) (held (n + 1) xs))) (eq-eqb n (n + 0) (sym same))
      ∙ ap (λ m. Some (m, x)) (sym same)
  find_at_place (suc k) n (x ∷ xs) e =
      let same : (n + 1) + k ≡ n + suc k = omega arith in
      by (holds n)
      ∙ ap (λ m. find (λ q. q.0 == m) (held (n + 1) xs)) (sym same)
      ∙ find_at_place k (n + 1) xs (ap holds same ∙ e)
      ∙ ap (λ m. option_map (λ y. (m, y)) (slice_get xs k)) same
    where
      by : (b : Bool) → find (λ q. q.0 == n + suc k) (cond b ((n, x) ∷ held (n + 1) xs) (held (n + 1) xs)) ≡ find (λ q. q.0 == n + suc k) (held (n + 1) xs)
      by false = refl
      by true = ap (λ b. cond b (Some (n, x)) (find (λ q. q.0 == n + suc k) (held (n + 1) xs))) (ne_eqb n (n + suc k) (λ e. omega arith))

  module _ {Y : Type 0} (g : Placed → List Y) (p : Y → Bool) where
    abbrev counted : List Placed → ℕ
    counted ps = count_by p (flat_map g ps)

    counted-cons : (q : Placed) (ps : List Placed) → counted (q ∷ ps) ≡ count_by p (g q) + counted ps
    counted-cons q ps = count-append p (g q) (flat_map g ps)

    abbrev own_count : Option Placed → ℕ
    own_count None = 0
    own_count (Some q) = count_by p (g q)

    -- what is given is what is given without the package at a place, and what that package gives
    split_from : (place n : ℕ) (xs : List PlainPackage) → counted (held n xs) ≡ counted (without place (held n xs)) + own_count (find (λ q. q.0 == place) (held n xs))
    split_from place n [] = refl
    split_from place n (x ∷ xs) = by (holds n) (n == place) refl (split_from place (n + 1) xs)
      where
        none_here : (q : ℕ) (ps : List Placed) → n ≡ place → without place (held (n + 1) xs) ≡ held (n + 1) xs
        none_here q ps e = kept_all place (n + 1) xs (omega arith)

        by : (b here : Bool) → (n == place) ≡ here → counted (held (n + 1) xs) ≡ counted (without place (held (n + 1) xs)) + own_count (find (λ q. q.0 == place) (held (n + 1) xs))
            → counted (cond b ((n, x) ∷ held (n + 1) xs) (held (n + 1) xs)) ≡ counted (without place (cond b ((n, x) ∷ held (n + 1) xs) (held (n + 1) xs))) + own_count (find (λ q. q.0 == place) (cond b ((n, x) ∷ held (n + 1) xs) (held (n + 1) xs)))
        by false here e rest = rest
        by true true e rest =
            rw e (omega (arith, counted-cons (n, x) (held (n + 1) xs), ap counted (none_here 0 [] (eqb-true n place e))))
        by true false e rest =
            rw e (omega (arith, counted-cons (n, x) (held (n + 1) xs), counted-cons (n, x) (without place (held (n + 1) xs)), rest))

    pub split_members : (place : ℕ) (packages : List PlainPackage) → counted (members holds packages) ≡ counted (without place (members holds packages)) + own_count (find (λ q. q.0 == place) (members holds packages))
    split_members place packages = split_from place 1 packages

-- ---- what is kept

module _ (name : List ℕ) (status : List Placed) (kept : Option Entries) (keeps : Keeps name status kept) where
  pub beside_kept : (n u : ℕ) (bound : Option (Relop × ℕ))
      → (nat_lt n (count_by (meets bound) (kept_numbers kept)) || (nat_lt u (kept_unversioned kept) && not (is_below_one bound)))
      ≡ (nat_lt n (count_by (meets bound) (numbers_of name status)) || (nat_lt u (count_by (λ given. bytes_eq given name) (gives_all_versions status)) && not (is_below_one bound)))
  beside_kept n u bound =
      ap (λ k. nat_lt n k || (nat_lt u (kept_unversioned kept) && not (is_below_one bound))) (keeps.numbers (meets bound))
      ∙ ap (λ k. nat_lt n (count_by (meets bound) (numbers_of name status)) || (nat_lt u k && not (is_below_one bound))) keeps.unversioned

  -- so many numbers and unversioned provisions that are kept meet a bound
  pub kept_exceeds : (n u m w : ℕ) (bound : Option (Relop × ℕ)) → m ≡ count_by (meets bound) (kept_numbers kept) → w ≡ (if is_below_one bound then 0 else kept_unversioned kept)
      → (nat_lt n m || nat_lt u w)
      ≡ (nat_lt n (count_by (meets bound) (numbers_of name status)) || (nat_lt u (count_by (λ given. bytes_eq given name) (gives_all_versions status)) && not (is_below_one bound)))
  kept_exceeds n u m w bound met all =
      ap (λ k. nat_lt n k || nat_lt u w) met
      ∙ ap (λ b. nat_lt n (count_by (meets bound) (kept_numbers kept)) || b) (ap (nat_lt u) all ∙ unless u (is_below_one bound) (kept_unversioned kept))
      ∙ beside_kept n u bound

-- a name of which nothing is kept
pub none_kept : (v : PlainVpkg) (status : List Placed) → Keeps v.name status None → satisfies status v ≡ false
none_kept v status keeps =
    satisfies-counted status v ∙ sym (kept_exceeds v.name status None keeps 0 0 0 0 v.bound refl (by (is_below_one v.bound)))
  where
    by : (b : Bool) → ◌≡◌ {A = ℕ} 0 (if b then 0 else 0)
    by true = refl
    by false = refl

-- fewer packages satisfy less
pub unsatisfied_without : (status : List Placed) (v : PlainVpkg) (place : ℕ) → satisfies status v ≡ false → satisfies (without place status) v ≡ false
unsatisfied_without status v place none =
    member_alone (without place status) v ∙ list_any-filter (meets_alone v) (λ p. not (p.0 == place)) status
    ∙ none_narrowed (meets_alone v) (λ p. not (p.0 == place)) status (sym (member_alone status v) ∙ none)

-- ---- what is read of a list

pub got : {X : Type 0} (xs : List X) (i : ℕ) (o : Option (Bor X)) → is_some o ≡ ltb i (length xs) → IfSome o (λ x. x.now ≡ get_or xs i x.now) → option_map (λ x. x.now) o ≡ slice_get xs i
got xs i None e h = sym (slice_get_past xs i (ltb-false i (length xs) (sym e)))
got xs i (Some x) e h = sym (slice_get_read xs (length xs) i x.now refl (ltb-true i (length xs) (sym e)) h)

-- ---- the package at a place of a status, and the others

module _ (holds : ℕ → Bool) (packages : List PlainPackage) (status : List Placed) (view : members holds packages ≡ status) where
  split_status : {Y : Type 0} (g : Placed → List Y) (p : Y → Bool) (place : ℕ) (o : Option Placed) → o ≡ find (λ q. q.0 == place) status
      → count_by p (flat_map g status) ≡ count_by p (flat_map g (without place status)) + own_count holds g p o
  split_status g p place o e =
      subst (λ s. count_by p (flat_map g s) ≡ count_by p (flat_map g (without place s)) + own_count holds g p (find (λ q. q.0 == place) s)) view (split_members holds g p place packages)
      ∙ ap (λ q. count_by p (flat_map g (without place status)) + own_count holds g p q) (sym e)

  pub numbers_split : (v : PlainVpkg) (place : ℕ) (o : Option Placed) → o ≡ find (λ q. q.0 == place) status → (n : ℕ) → n ≡ own_count holds (λ q. package_pairs q.1) (is_met_by v) o
      → count_by (meets v.bound) (numbers_of v.name status) ≡ count_by (meets v.bound) (numbers_of v.name (without place status)) + n
  numbers_split v place o e n own =
      count-numbers v status ∙ split_status (λ q. package_pairs q.1) (is_met_by v) place o e ∙ (λ i. sym (count-numbers v (without place status)) i + sym own i)

  pub names_split : (name : List ℕ) (place : ℕ) (o : Option Placed) → o ≡ find (λ q. q.0 == place) status → (n : ℕ) → n ≡ own_count holds (λ q. filter_map unversioned_name q.1.provides) (λ given. bytes_eq given name) o
      → count_by (λ given. bytes_eq given name) (gives_all_versions status) ≡ count_by (λ given. bytes_eq given name) (gives_all_versions (without place status)) + n
  names_split name place o e n own =
      split_status (λ q. filter_map unversioned_name q.1.provides) (λ given. bytes_eq given name) place o e ∙ (λ i. count_by (λ given. bytes_eq given name) (gives_all_versions (without place status)) + sym own i)

-- ---- what a package gives, entry by entry

pub pairs_counted : (v : PlainVpkg) (own : Id) (es : List PlainVpkg) → count_by (is_met_by v) (own ∷ filter_map entry_pair es) ≡ cond (is_met_by v own) 1 0 + count_by (is_met_by_entry v) es
pairs_counted v own es =
    count-cons (is_met_by v) own (filter_map entry_pair es)
    ∙ ap (λ n. cond (is_met_by v own) 1 0 + n) (count-filter_map (is_met_by v) entry_pair es)

pub names_counted : (name : List ℕ) (es : List PlainVpkg) → count_by (λ given. bytes_eq given name) (filter_map unversioned_name es) ≡ count_by (gives_all_of name) es
names_counted name es = count-filter_map (λ given. bytes_eq given name) unversioned_name es

-- ---- the package at a place alone

split_there : {Y : Type 0} (g : Placed → List Y) (p : Y → Bool) (place : ℕ) (status : List Placed) → count_by p (flat_map g status) ≡ count_by p (flat_map g (without place status)) + count_by p (flat_map g (at place status))
split_there g p place [] = refl
split_there g p place (q ∷ qs) = by (q.0 == place) (split_there g p place qs)
  where
    by : (b : Bool) → count_by p (flat_map g qs) ≡ count_by p (flat_map g (without place qs)) + count_by p (flat_map g (at place qs))
        → count_by p (g q ++ flat_map g qs) ≡ count_by p (flat_map g (cond (not b) (q ∷ without place qs) (without place qs))) + count_by p (flat_map g (cond b (q ∷ at place qs) (at place qs)))
    by true rest = omega (arith, rest, count-append p (g q) (flat_map g qs), count-append p (g q) (flat_map g (at place qs)))
    by false rest = omega (arith, rest, count-append p (g q) (flat_map g qs), count-append p (g q) (flat_map g (without place qs)))

-- how many of the entries are its own tells whether it satisfies the vpkg
pub satisfies_own : (v : PlainVpkg) (place : ℕ) (status : List Placed) (numbers names : ℕ)
    → count_by (meets v.bound) (numbers_of v.name status) ≡ count_by (meets v.bound) (numbers_of v.name (without place status)) + numbers
    → count_by (λ given. bytes_eq given v.name) (gives_all_versions status) ≡ count_by (λ given. bytes_eq given v.name) (gives_all_versions (without place status)) + names
    → satisfies (at place status) v ≡ (nat_lt 0 numbers || (nat_lt 0 names && not (is_below_one v.bound)))
satisfies_own v place status numbers names numbers_are names_are =
    let pairs_split = split_there (λ q. package_pairs q.1) (is_met_by v) place status in
    let names_split = split_there (λ q. filter_map unversioned_name q.1.provides) (λ given. bytes_eq given v.name) place status in
    let same_numbers : count_by (meets v.bound) (numbers_of v.name (at place status)) ≡ numbers = omega (arith, numbers_are, pairs_split, count-numbers v status, count-numbers v (without place status), count-numbers v (at place status)) in
    let same_names : count_by (λ given. bytes_eq given v.name) (gives_all_versions (at place status)) ≡ names = omega (arith, names_are, names_split) in
    satisfies-counted (at place status) v ∙ (λ i. nat_lt 0 (same_numbers i) || (nat_lt 0 (same_names i) && not (is_below_one v.bound)))
