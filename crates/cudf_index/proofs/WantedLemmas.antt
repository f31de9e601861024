-- The places of all that are wanted: of a row, of the halves of a node, and of a status.
use Rattle.std.proofs.Common.{length-append, ◌≡◌, ℕ, ◌+◌, ◌-◌, ◌≤◌, Bool, true, false, cond, ◌||◌, ◌&&◌, ◌==◌, nat_lt, List, [], ◌∷◌, ◌++◌, length, map, Option, Some, None, refl, sym, ap, ◌∙◌, arith, subst, Box, bytes_eq, append_assoc}
use Rattle.std.specs.Prelude.{filter, filter_map, option_map, slice_get}
use Rattle.std.specs.List.{list_any, list_all, cons_option, enumerate_from}
use Rattle.std.specs.Option.{option_map_or, is_some}
use Rattle.std.specs.declared.alloc.Global.{Global}
use Rattle.std.proofs.lemmas.Bool.{or_parts, eq-eqb, eqb-true, ne_eqb, true≢false}
use Rattle.std.proofs.lemmas.List.{append-nil, map-append}
use Rattle.std.proofs.lemmas.List.Sums.{fold-append}
use Rattle.std.proofs.lemmas.List.Folds.{list_all-append}
use Rattle.cudf_value.specs.Vpkgs.{PlainVpkg, meets}
use Rattle.cudf_problem.specs.Universe.{PlainPackage}
use Rattle.cudf_value.specs.declared.vpkg.Relop.{Relop}
use Rattle.cudf_index.specs.Promises.Places.{places_where, is_named, gives_number}
use Rattle.cudf_index.specs.Satisfaction.{Placed, members, meets_alone}
use Rattle.cudf_index.specs.Working.Gathering.{provisions_of, own_entry, given_by, given_of, Completes}
use Rattle.cudf_index.specs.Working.FirstPlaces.{number_meets}
use Rattle.cudf_index.specs.Working.Trees.{provisions, AreHalves, Holds}
use Rattle.cudf_index.specs.Working.ProvisionTest.{passes, some_passes, ends_in, with_new, with_passing, with_all}
use Rattle.cudf_index.specs.declared.index.gathered_names.Entries.{Entries}
use Rattle.cudf_index.specs.declared.index.gathered_names.Provision.{Provision}
use Rattle.cudf_index.specs.declared.index.named_trees.Node.{Node}
use Rattle.cudf_index.specs.declared.index.named_trees.Node.TheVariants.{Halves}
use Rattle.cudf_index.specs.declared.index.named_trees.ProvisionTree.{ProvisionTree}
use Rattle.cudf_index.specs.declared.index.named_trees.ProvisionTest.{ProvisionTest}
use Rattle.cudf_index.specs.declared.index.named_trees.ProvisionTest.TheVariants.{Meeting, Number, Version}
use Rattle.cudf_index.proofs.CountLemmas.{any-count}
use Rattle.cudf_index.proofs.GatheringLemmas.{numbers_given}
use Rattle.cudf_index.proofs.SearchLemmas.{found_place}
use Rattle.cudf_index.proofs.TreeLemmas.{counted, sole_all, first_by}
use Rattle.cudf_index.proofs.VersionLemmas.{version_by}

-- ---- the last of some places

last_there : (place : ℕ) (places : List ℕ) → slice_get (places ++ place ∷ []) (length places) ≡ Some place
last_there place [] = refl
last_there place (q ∷ qs) = last_there place qs

ends_pushed : (other place : ℕ) (places : List ℕ) → ends_in other (places ++ place ∷ []) ≡ (place == other)
ends_pushed other place places = by (slice_get (places ++ place ∷ []) (length (places ++ place ∷ []) - 1)) (ap (slice_get (places ++ place ∷ [])) (omega (arith, length-append places (place ∷ []))) ∙ last_there place places)
  where
    by : (o : Option ℕ) → o ≡ Some place → option_map_or (λ last. last == other) o false ≡ (place == other)
    by o e = ap (λ p. option_map_or (λ last. last == other) p false) e

-- a place is put once
twice : (place : ℕ) (places : List ℕ) → with_new (with_new places place) place ≡ with_new places place
twice place places = by (ends_in place places) refl
  where
    by : (b : Bool) → ends_in place places ≡ b → with_new (cond b places (places ++ place ∷ [])) place ≡ cond b places (places ++ place ∷ [])
    by true e = ap (λ c. cond c places (places ++ place ∷ [])) e
    by false e = ap (λ c. cond c (places ++ place ∷ []) ((places ++ place ∷ []) ++ place ∷ [])) (ends_pushed place place places ∙ eq-eqb place place refl)

-- ---- a row

pub any_number : (bound : Option (Relop × ℕ)) (row : List Provision) → list_any (passes (Number bound)) row ≡ list_any (meets bound) (filter_map (λ g. g.number) row)
any_number bound [] = refl
any_number bound (g ∷ gs) = ap (λ b. option_map_or (meets bound) g.number false || b) (any_number bound gs) ∙ by g.number (filter_map (λ h. h.number) gs)
  where
    by : (o : Option ℕ) (ns : List ℕ) → (option_map_or (meets bound) o false || list_any (meets bound) ns) ≡ list_any (meets bound) (cons_option o ns)
    by None ns = refl
    by (Some n) ns = refl

-- what is kept of a row tells whether one of it is wanted
pub any_tells : (w : ProvisionTest) (row : List Provision) (e : Entries) → Completes row e → list_any (passes w) row ≡ some_passes w e
any_tells (Meeting bound) row e whole = counted bound row e whole
any_tells (Number bound) row e whole = any_number bound row ∙ any-count (meets bound) (filter_map (λ g. g.number) row) ∙ ap (nat_lt 0) (sym (whole.numbers (meets bound)))
any_tells Version row e whole = sym whole.is_package

module _ (w : ProvisionTest) where
  pub none_wanted : (places : List ℕ) (row : List Provision) → list_any (passes w) row ≡ false → with_all w places row ≡ places
  none_wanted places [] none = refl
  none_wanted places (g ∷ gs) none =
      let parts = or_parts (passes w g) (list_any (passes w) gs) none in
      ap (λ b. with_all w (cond b (with_new places g.place) places) gs) parts.0 ∙ none_wanted places gs parts.1

  -- where all provisions are of one package
  pub one_wanted : (place : ℕ) (places : List ℕ) (row : List Provision) → list_all (λ q. q == place) (map (λ g. g.place) row) ≡ true → with_all w places row ≡ cond (list_any (passes w) row) (with_new places place) places
  one_wanted place places [] all = refl
  one_wanted place places (g ∷ gs) all = by (g.place == place) refl (passes w g) all (λ ps. one_wanted place ps gs)
    where
      kept : (b : Bool) → cond b (with_new (with_new places place) place) (with_new places place) ≡ with_new places place
      kept true = twice place places
      kept false = refl

      by : (same : Bool) → (g.place == place) ≡ same → (b : Bool) → (same && list_all (λ q. q == place) (map (λ h. h.place) gs)) ≡ true
          → ((ps : List ℕ) → list_all (λ q. q == place) (map (λ h. h.place) gs) ≡ true → with_all w ps gs ≡ cond (list_any (passes w) gs) (with_new ps place) ps)
          → with_all w (cond b (with_new places g.place) places) gs ≡ cond (b || list_any (passes w) gs) (with_new places place) places
      by true same true all rest =
          ap (λ p. with_all w (with_new places p) gs) (eqb-true g.place place same) ∙ rest (with_new places place) all ∙ kept (list_any (passes w) gs)
      by true same false all rest = rest places all
      by false same b all rest = absurd (true≢false (sym all))

  -- ---- the halves of a node

  module _ (node : Node) (row : List Provision) (entries : Box Entries Global) (front back : Box ProvisionTree Global) (view : provisions node ≡ row) (holds : Holds node) (is : node ≡ Halves entries front back) (places : List ℕ) where
    halves : AreHalves entries.value front.value back.value
    halves = subst Holds is holds

    pub both_wanted : with_all w (with_all w places front.value) back.value ≡ with_all w places row
    both_wanted = sym (fold-append (with_passing w) places front.value back.value) ∙ ap (with_all w places) (sym (ap provisions is) ∙ view)

    pub second_wanted : some_passes w entries.value ≡ false → with_all w places back.value ≡ with_all w places row
    second_wanted none = ap (λ ps. with_all w ps back.value) (sym (none_wanted places front.value (any_tells w front.value entries.value halves.first ∙ none))) ∙ both_wanted

    pub sole_wanted : (place : ℕ) → Some place ≡ entries.value.sole → some_passes w entries.value ≡ true → with_all w (with_new places place) back.value ≡ with_all w places row
    sole_wanted place sole some =
        ap (λ ps. with_all w ps back.value)
        (sym (one_wanted place places front.value (sole_all (map (λ g. g.place) front.value) place (sole ∙ halves.first.sole)) ∙ ap (λ b. cond b (with_new places place) places) (any_tells w front.value entries.value halves.first ∙ some)))
        ∙ both_wanted

-- ---- a status

own_places : (own : Bool) (f : List ℕ) (place : ℕ) (es : List PlainVpkg) → list_all (λ q. q == place) (map (λ g. g.place) (provisions_of own f place es)) ≡ true
own_places own f place es = each (filter (λ entry. bytes_eq entry.name f) es)
  where
    each : (kept : List PlainVpkg) → list_all (λ q. q == place) (map (λ (g : Provision). g.place) (map (λ entry. record { number = option_map (λ b. b.1) entry.bound; place = place; is_version = own }) kept)) ≡ true
    each [] = refl
    each (e ∷ es) = ap (λ b. b && list_all (λ q. q == place) (map (λ (g : Provision). g.place) (map (λ entry. record { number = option_map (λ b. b.1) entry.bound; place = place; is_version = own }) es))) (eq-eqb place place refl) ∙ each es

pub package_places : (f : List ℕ) (p : Placed) → list_all (λ q. q == p.0) (map (λ g. g.place) (given_by f p)) ≡ true
package_places f p =
    ap (list_all (λ q. q == p.0)) (map-append (λ (g : Provision). g.place) (provisions_of true f p.0 (own_entry p.1 ∷ [])) (provisions_of false f p.0 p.1.provides))
    ∙ list_all-append (λ q. q == p.0) (map (λ g. g.place) (provisions_of true f p.0 (own_entry p.1 ∷ []))) (map (λ g. g.place) (provisions_of false f p.0 p.1.provides))
    ∙ ap (λ b. b && list_all (λ q. q == p.0) (map (λ g. g.place) (provisions_of false f p.0 p.1.provides))) (own_places true f p.0 (own_entry p.1 ∷ []))
    ∙ own_places false f p.0 p.1.provides

-- no place from this one on is the last
abbrev EndsBelow : ℕ → List ℕ → Type 0
EndsBelow low places = (place : ℕ) → low ≤ place → ends_in place places ≡ false

module _ (w : ProvisionTest) (f : List ℕ) (test : Placed → Bool) (tells : (p : Placed) → list_any (passes w) (given_by f p) ≡ test p) (holds : ℕ → Bool) where
  abbrev status : ℕ → List PlainPackage → List Placed
  status low packages = filter (λ (p : Placed). holds p.0) (enumerate_from low packages)

  abbrev found : List Placed → List ℕ
  found ps = map (λ q. q.0) (filter test ps)

  from_here : (low : ℕ) (packages : List PlainPackage) (places : List ℕ) → EndsBelow low places → with_all w places (given_of f (status low packages)) ≡ places ++ found (status low packages)
  from_here low [] places below = sym (append-nil places)
  from_here low (p ∷ ps) places below = by (holds low) (test (low, p)) refl (λ before. from_here (low + 1) ps before)
    where
      later : EndsBelow (low + 1) places
      later = λ place h. below place (omega arith)

      pushed : EndsBelow (low + 1) (places ++ low ∷ [])
      pushed = λ place h. ends_pushed place low places ∙ ne_eqb low place (λ e. omega arith)

      rest : List Placed
      rest = status (low + 1) ps

      here : with_all w places (given_by f (low, p)) ≡ cond (test (low, p)) (places ++ low ∷ []) places
      here =
          one_wanted w low places (given_by f (low, p)) (package_places f (low, p))
          ∙ ap (λ b. cond b (with_new places low) places) (tells (low, p))
          ∙ ap (λ b. cond (test (low, p)) (cond b places (places ++ low ∷ [])) places) (below low (omega arith))

      by : (held wanted : Bool) → test (low, p) ≡ wanted → ((before : List ℕ) → EndsBelow (low + 1) before → with_all w before (given_of f rest) ≡ before ++ found rest)
          → with_all w places (given_of f (cond held ((low, p) ∷ rest) rest)) ≡ places ++ found (cond held ((low, p) ∷ rest) rest)
      by false wanted e ih = ih places later
      by true false e ih =
          fold-append (with_passing w) places (given_by f (low, p)) (given_of f rest)
          ∙ ap (λ found. with_all w found (given_of f rest)) (here ∙ ap (λ b. cond b (places ++ low ∷ []) places) e)
          ∙ ih places later
          ∙ ap (λ b. places ++ map (λ (q : Placed). q.0) (cond b ((low, p) ∷ filter test rest) (filter test rest))) (sym e)
      by true true e ih =
          fold-append (with_passing w) places (given_by f (low, p)) (given_of f rest)
          ∙ ap (λ found. with_all w found (given_of f rest)) (here ∙ ap (λ b. cond b (places ++ low ∷ []) places) e)
          ∙ ih (places ++ low ∷ []) pushed
          ∙ append_assoc places (low ∷ []) (found rest)
          ∙ ap (λ b. places ++ map (λ (q : Placed). q.0) (cond b ((low, p) ∷ filter test rest) (filter test rest))) (sym e)

  pub all_given : (packages : List PlainPackage) → with_all w [] (given_of f (status 1 packages)) ≡ found (status 1 packages)
  all_given packages = from_here 1 packages [] (λ place h. refl)

-- ---- what a package gives

pub meeting_tells : (v : PlainVpkg) (p : Placed) → list_any (passes (Meeting v.bound)) (given_by v.name p) ≡ meets_alone v p
meeting_tells v p = sym (found_place (λ (g : Provision). g.place) (λ g. number_meets v.bound g.number) (given_by v.name p)) ∙ ap is_some (first_by v None p) ∙ by (meets_alone v p)
  where
    by : (b : Bool) → is_some (cond b (Some p.0) None) ≡ b
    by true = refl
    by false = refl

named_tells : (f : List ℕ) (p : Placed) → list_any (passes Version) (given_by f p) ≡ is_named f p
named_tells f p = sym (found_place (λ (g : Provision). g.place) (λ g. g.is_version) (given_by f p)) ∙ ap is_some (version_by f p) ∙ by (bytes_eq p.1.name f)
  where
    by : (b : Bool) → is_some (cond b (Some p.0) None) ≡ b
    by true = refl
    by false = refl

pub number_tells : (f : List ℕ) (bound : Option (Relop × ℕ)) (p : Placed) → list_any (passes (Number bound)) (given_by f p) ≡ gives_number f bound p
number_tells f bound p =
    any_number bound (given_by f p) ∙ ap (λ row. list_any (meets bound) (filter_map (λ g. g.number) row)) (sym (append-nil (given_by f p)))
    ∙ ap (list_any (meets bound)) (sym (numbers_given f (p ∷ [])))

module _ (holds : ℕ → Bool) (packages : List PlainPackage) (now : List Placed) (view : members holds packages ≡ now) (f : List ℕ) (row : List Provision) (kept : row ≡ given_of f (members holds packages)) (places : List ℕ) (cleared : places ≡ []) where
  by_test : (w : ProvisionTest) (test : Placed → Bool) → ((p : Placed) → list_any (passes w) (given_by f p) ≡ test p) → with_all w places row ≡ places_where test now
  by_test w test tells =
      ap (λ ps. with_all w ps row) cleared ∙ ap (with_all w []) kept ∙ all_given w f test tells holds packages ∙ ap (places_where test) view

  pub meeting_given : (bound : Option (Relop × ℕ)) → with_all (Meeting bound) places row ≡ places_where (meets_alone (record { name = f; bound = bound })) now
  meeting_given bound = by_test (Meeting bound) (meets_alone (record { name = f; bound = bound })) (meeting_tells (record { name = f; bound = bound }))

  pub named_given : with_all Version places row ≡ places_where (is_named f) now
  named_given = by_test Version (is_named f) (named_tells f)

  pub number_given : (bound : Option (Relop × ℕ)) → with_all (Number bound) places row ≡ places_where (gives_number f bound) now
  number_given bound = by_test (Number bound) (gives_number f bound) (number_tells f bound)
