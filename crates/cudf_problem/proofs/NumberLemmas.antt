-- Pairs by the numbers of their names.
use Rattle.std.proofs.Common.{◌≡◌, ℕ, ◌+◌, ◌<◌, ◌≤◌, nat_lt, ◌==◌, Bool, true, false, ◌&&◌, ◌||◌, cond, suc, unwrap_or, List, [], ◌∷◌, ◌++◌, length, get_or, map, Option, Some, None, is_some, position, refl, sym, ap, ◌∙◌, arith, bytes_eq, subst}
use Rattle.std.specs.Prelude.{slice_get}
use Rattle.std.specs.List.{list_any, position_from, fold}
use Rattle.std.specs.Option.{option_or}
use Rattle.std.proofs.lemmas.Bool.{true≢false, ltb-true, ltb-false, eqb-true, eqb-false, eq-eqb, ne_eqb, false_from_ne_true, and_parts}
use Rattle.std.proofs.lemmas.Bool.Decides.{nat_tests}
use Rattle.std.proofs.lemmas.List.{map_push, length_push, get_or_append_left, get_or_push, get_or-map, length-map}
use Rattle.std.proofs.lemmas.List.Folds.{list_any_at}
use Rattle.std.proofs.lemmas.List.Quantifiers.{position-Some}
use Rattle.std.proofs.lemmas.List.Sums.{fold-append}
use Rattle.std.proofs.lemmas.Iterator.Adapters.{position_from-zero}
use Rattle.std.proofs.lemmas.Option.{slice_get-get_or, slice_get_past}
use Rattle.std.proofs.lemmas.Slice.Eq.{bytes_eq-Decides}
use Rattle.indexmap.specs.IndexSet.{insert_key}
use Rattle.cudf_problem.specs.declared.package.NumberedPair.{NumberedPair}
use Rattle.cudf_problem.specs.Ids.{Id, is_id, is_among}
use Rattle.cudf_problem.specs.Promises.Names.{names_of_ids}
use Rattle.cudf_problem.specs.Working.Numbers.{pair_id, pair_ids, is_pair, version_at, first_or, kept_index, AreNumbered}
use Rattle.cudf_problem.proofs.ListLemmas.{position-map, option_or-none}

pub same_text : (a b : List ℕ) → bytes_eq a b ≡ true → a ≡ b
same_text a b e = (bytes_eq-Decides a b).0 e

pub text_same : (a b : List ℕ) → a ≡ b → bytes_eq a b ≡ true
text_same a b e = (bytes_eq-Decides a b).1 e

pub none_of : (o : Option ℕ) → is_some o ≡ false → o ≡ None
none_of None h = refl
none_of (Some i) h = absurd cc

some_same : (m n : ℕ) → Some m ≡ Some n → m ≡ n
some_same m n e = ap (λ o. unwrap_or o m) e

-- ---- where an element is

module _ {A : Type 0} where
  from_push : (t : A → Bool) (n : ℕ) (xs : List A) (x : A) → position_from t n (xs ++ x ∷ []) ≡ option_or (position_from t n xs) (cond (t x) (Some (n + length xs)) None)
  from_push t n [] x = ap (λ m. cond (t x) (Some m) None) {x = n} {y = n + 0} (omega arith)
  from_push t n (y ∷ ys) x = by (t y) (from_push t (n + 1) ys x ∙ ap (λ m. option_or (position_from t (n + 1) ys) (cond (t x) (Some m) None)) {x = (n + 1) + length ys} {y = n + length (y ∷ ys)} (omega arith))
    where
      by : (b : Bool) → position_from t (n + 1) (ys ++ x ∷ []) ≡ option_or (position_from t (n + 1) ys) (cond (t x) (Some (n + length (y ∷ ys))) None)
          → cond b (Some n) (position_from t (n + 1) (ys ++ x ∷ [])) ≡ option_or (cond b (Some n) (position_from t (n + 1) ys)) (cond (t x) (Some (n + length (y ∷ ys))) None)
      by true rest = refl
      by false rest = rest

  -- one element more
  pub position_push : (t : A → Bool) (xs : List A) (x : A) → position t (xs ++ x ∷ []) ≡ option_or (position t xs) (cond (t x) (Some (length xs)) None)
  position_push t xs x =
      position_from-zero t (xs ++ x ∷ []) ∙ from_push t 0 xs x
      ∙ ap (λ o. option_or o (cond (t x) (Some (0 + length xs)) None)) (sym (position_from-zero t xs))
      ∙ ap (λ m. option_or (position t xs) (cond (t x) (Some m) None)) {x = 0 + length xs} {y = length xs} (omega arith)

  from_some : (t : A → Bool) (n : ℕ) (xs : List A) → is_some (position_from t n xs) ≡ list_any t xs
  from_some t n [] = refl
  from_some t n (x ∷ xs) = by (t x) (from_some t (n + 1) xs)
    where
      by : (b : Bool) → is_some (position_from t (n + 1) xs) ≡ list_any t xs → is_some (cond b (Some n) (position_from t (n + 1) xs)) ≡ (b || list_any t xs)
      by true rest = refl
      by false rest = rest

  pub is_some-position : (t : A → Bool) (xs : List A) → is_some (position t xs) ≡ list_any t xs
  is_some-position t xs = ap is_some (position_from-zero t xs) ∙ from_some t 0 xs

  pub position_none : (t : A → Bool) (xs : List A) → list_any t xs ≡ false → position t xs ≡ None
  position_none t xs none = none_of (position t xs) (is_some-position t xs ∙ none)

  from_alike : (t u : A → Bool) (n : ℕ) (xs : List A) → ((i : ℕ) (d : A) → i < length xs → t (get_or xs i d) ≡ u (get_or xs i d)) → position_from t n xs ≡ position_from u n xs
  from_alike t u n [] alike = refl
  from_alike t u n (x ∷ xs) alike =
      (λ i. cond (alike 0 x (omega arith) i) (Some n) (from_alike t u (n + 1) xs (λ k d lt. alike (suc k) d (omega arith)) i))

  -- tests that agree on all elements
  pub position-alike : (t u : A → Bool) (xs : List A) → ((i : ℕ) (d : A) → i < length xs → t (get_or xs i d) ≡ u (get_or xs i d)) → position t xs ≡ position u xs
  position-alike t u xs alike = position_from-zero t xs ∙ from_alike t u 0 xs alike ∙ sym (position_from-zero u xs)

  none_false : (xs : List A) → list_any (λ x. false) xs ≡ false
  none_false [] = refl
  none_false (x ∷ xs) = none_false xs

-- ---- names

-- one pair more
pub names-push : (ids : List Id) (id : Id) → names_of_ids (ids ++ id ∷ []) ≡ insert_key bytes_eq (names_of_ids ids) id.0
names-push ids id = ap (fold (insert_key bytes_eq) []) (map_push (λ (x : Id). x.0) ids id) ∙ fold-append (insert_key bytes_eq) [] (map (λ x. x.0) ids) (id.0 ∷ [])

-- two names are the same where their numbers are
same_number : (names : List (List ℕ)) → ((n : ℕ) → n < length names → position (bytes_eq (get_or names n [])) names ≡ Some n)
    → (m n : ℕ) → m < length names → n < length names → bytes_eq (get_or names m []) (get_or names n []) ≡ (m == n)
same_number names once m n lm ln = by (bytes_eq a b) refl
  where
    a : List ℕ
    a = get_or names m []

    b : List ℕ
    b = get_or names n []

    by : (r : Bool) → bytes_eq a b ≡ r → r ≡ (m == n)
    by true e = sym (eq-eqb m n (some_same m n (sym (once m lm) ∙ ap (λ text. position (bytes_eq text) names) (same_text a b e) ∙ once n ln)))
    by false e = sym (false_from_ne_true (m == n) (λ h. true≢false (sym (text_same a b (ap (λ k. get_or names k []) (eqb-true m n h))) ∙ e)))

-- the number of a name is the one at which it is
pub text_at : (names : List (List ℕ)) (name : List ℕ) (n : ℕ) → position (bytes_eq name) names ≡ Some n → (n < length names) × (name ≡ get_or names n [])
text_at names name n at =
    let found = position-Some (bytes_eq name) names n [] at in
    (found.0, same_text name (get_or names n []) found.1)

module _ (names : List (List ℕ)) (pairs : List NumberedPair) (firsts : List ℕ) (other : NumberedPair → Option ℕ) (are : AreNumbered names pairs firsts other) where
  -- a pair is where it is by its number
  pub place_of : (p : NumberedPair) → p.name < length names → position (is_id (pair_id names p)) (pair_ids names pairs) ≡ position (is_pair p) pairs
  place_of p inside =
      sym (position-map (pair_id names) (is_id (pair_id names p)) pairs)
      ∙ position-alike (λ q. is_id (pair_id names p) (pair_id names q)) (is_pair p) pairs
      (λ i d lt. ap (λ b. b && (p.version == (get_or pairs i d).version)) (same_number names are.once p.name (get_or pairs i d).name inside (are.within i d lt)))

  -- what isn't named has no place
  pub no_place : (name : List ℕ) (version : ℕ) → position (bytes_eq name) names ≡ None → position (is_id (name, version)) (pair_ids names pairs) ≡ None
  no_place name version unknown =
      sym (position-map (pair_id names) (is_id (name, version)) pairs)
      ∙ position-alike (λ q. is_id (name, version) (pair_id names q)) (λ q. false) pairs
      (λ i d lt. ap (λ b. b && (version == (get_or pairs i d).version)) (differs (get_or pairs i d).name (are.within i d lt)))
      ∙ position_none (λ q. false) pairs (none_false pairs)
    where
      differs : (n : ℕ) → n < length names → bytes_eq name (get_or names n []) ≡ false
      differs n lt = false_from_ne_true (bytes_eq name (get_or names n [])) (λ h.
          true≢false (sym (list_any_at (bytes_eq name) names n [] lt h) ∙ sym (is_some-position (bytes_eq name) names) ∙ ap is_some unknown))

  -- the first pair of a name is one of the pairs
  pub first_within : (n first : ℕ) → slice_get firsts n ≡ Some first → first < length pairs
  first_within n first is =
      (position-Some (is_pair p) pairs first p (sym (are.found p) ∙ ap (λ o. first_or pairs p.version o (other p)) is ∙ ap (λ b. cond b (Some first) (other p)) (eq-eqb p.version p.version refl))).0
    where
      p : NumberedPair
      p = record { name = n; version = version_at pairs first }

  -- what is read of a pair is where it is
  module _ (p q : NumberedPair) (first : ℕ) (inside : p.name < length names) (is : first ≡ get_or firsts p.name first) where
    begins : slice_get firsts p.name ≡ Some first
    begins = slice_get-get_or firsts p.name first (omega (arith, are.begun)) ∙ ap Some (sym is)

    pub first_there : first < length pairs
    first_there = first_within p.name first begins

    read : (b : Bool) → (version_at pairs first == p.version) ≡ b → cond b (Some first) (other p) ≡ position (is_id (pair_id names p)) (pair_ids names pairs)
    read b e = ap (λ c. cond c (Some first) (other p)) (sym e) ∙ ap (λ o. first_or pairs p.version o (other p)) (sym begins) ∙ are.found p ∙ sym (place_of p inside)

    version_is : q ≡ get_or pairs first q → version_at pairs first ≡ q.version
    version_is at = get_or-map (λ x. x.version) pairs first q 0 first_there ∙ ap (λ x. x.version) (sym at)

    pub read_first : q ≡ get_or pairs first q → q.version ≡ p.version → Some first ≡ position (is_id (pair_id names p)) (pair_ids names pairs)
    read_first at same = read true (eq-eqb (version_at pairs first) p.version (version_is at ∙ same))

    pub read_other : q ≡ get_or pairs first q → (q.version ≡ p.version → ⊥) → other p ≡ position (is_id (pair_id names p)) (pair_ids names pairs)
    read_other at differs = read false (ne_eqb (version_at pairs first) p.version (λ e. differs (sym (version_is at) ∙ e)))

-- what is found among pairs seen through their names
pub seen : (names seen_names : List (List ℕ)) (pairs : List NumberedPair) (ids : List Id) (p : NumberedPair) (o : Option ℕ) → names ≡ seen_names → pair_ids names pairs ≡ ids
    → o ≡ position (is_id (pair_id names p)) (pair_ids names pairs) → o ≡ position (is_id (pair_id seen_names p)) ids
seen names seen_names pairs ids p o same view found = found ∙ (λ i. position (is_id (pair_id (same i) p)) (view i))

-- ---- one pair more

abbrev with_name : List (List ℕ) → List ℕ → List (List ℕ)
with_name names name = names ++ name ∷ []

-- the pairs before it are as they were
ids_kept : (names : List (List ℕ)) (name : List ℕ) (pairs : List NumberedPair) → ((i : ℕ) (d : NumberedPair) → i < length pairs → (get_or pairs i d).name < length names)
    → pair_ids (with_name names name) pairs ≡ pair_ids names pairs
ids_kept names name [] within = refl
ids_kept names name (p ∷ ps) within =
    λ i. (get_or_append_left names (name ∷ []) [] p.name (within 0 p (omega arith)) i, p.version) ∷ ids_kept names name ps (λ k d lt. within (suc k) d (omega arith)) i

within_push : (pairs : List NumberedPair) (p : NumberedPair) (old bound : ℕ) → old ≤ bound → p.name < bound
    → ((i : ℕ) (d : NumberedPair) → i < length pairs → (get_or pairs i d).name < old) → (i : ℕ) (d : NumberedPair) → i < length (pairs ++ p ∷ []) → (get_or (pairs ++ p ∷ []) i d).name < bound
within_push pairs p old bound more last within i d lt = by (nat_lt i (length pairs)) refl
  where
    by : (b : Bool) → nat_lt i (length pairs) ≡ b → (get_or (pairs ++ p ∷ []) i d).name < bound
    by true e =
        let below : i < length pairs = ltb-true i (length pairs) e in
        let named = within i d below in
        subst (λ q. q.name < bound) (sym (get_or_append_left pairs (p ∷ []) d i below)) (omega (arith, named))
    by false e =
        let end : length pairs ≤ i = ltb-false i (length pairs) e in
        subst (λ q. q.name < bound) (sym (get_or_push pairs p d i (omega (arith, length_push pairs p)))) last

-- what is inserted and wasn't there goes last
pub fresh_last : {A : Type 0} (same : A → A → Bool) (xs : List A) (x : A) → list_any (same x) xs ≡ false → insert_key same xs x ≡ xs ++ x ∷ []
fresh_last same xs x fresh = ap (λ b. cond b xs (xs ++ x ∷ [])) fresh

-- what was there changes nothing
pub known_kept : {A : Type 0} (same : A → A → Bool) (xs : List A) (x : A) → list_any (same x) xs ≡ true → insert_key same xs x ≡ xs
known_kept same xs x known = ap (λ b. cond b xs (xs ++ x ∷ [])) known

-- the first pairs and the others find the same before a pair that is none of theirs
kept_before : (pairs : List NumberedPair) (q : NumberedPair) (version : ℕ) (o other : Option ℕ) → ((first : ℕ) → o ≡ Some first → first < length pairs)
    → first_or (pairs ++ q ∷ []) version o other ≡ first_or pairs version o other
kept_before pairs q version None other inside = refl
kept_before pairs q version (Some first) other inside =
    ap (λ v. cond (v == version) (Some first) other)
    (ap (λ vs. get_or vs first 0) (map_push (λ (p : NumberedPair). p.version) pairs q)
    ∙ get_or_append_left (map (λ p. p.version) pairs) (q.version ∷ []) 0 first (omega (arith, inside first refl, length-map pairs (λ (p : NumberedPair). p.version))))

version_at-push : (pairs : List NumberedPair) (q : NumberedPair) → version_at (pairs ++ q ∷ []) (length pairs) ≡ q.version
version_at-push pairs q =
    ap (λ vs. get_or vs (length pairs) 0) (map_push (λ (p : NumberedPair). p.version) pairs q)
    ∙ get_or_push (map (λ p. p.version) pairs) q.version 0 (length pairs) (length-map pairs (λ (p : NumberedPair). p.version))

eqb_sym : (a b : ℕ) → (a == b) ≡ (b == a)
eqb_sym a b = grind (arith, nat_tests)

got_left : (xs : List ℕ) (x i : ℕ) → i < length xs → slice_get (xs ++ x ∷ []) i ≡ slice_get xs i
got_left xs x i lt =
    slice_get-get_or (xs ++ x ∷ []) i 0 (omega (arith, length_push xs x)) ∙ ap Some (get_or_append_left xs (x ∷ []) 0 i lt) ∙ sym (slice_get-get_or xs i 0 lt)

got_last : (xs : List ℕ) (x i : ℕ) → i ≡ length xs → slice_get (xs ++ x ∷ []) i ≡ Some x
got_last xs x i end =
    slice_get-get_or (xs ++ x ∷ []) i 0 (omega (arith, length_push xs x)) ∙ ap Some (get_or_push xs x 0 i (sym end))

-- no pair has a number that no name has
module _ (names : List (List ℕ)) (pairs : List NumberedPair) (firsts : List ℕ) (other : NumberedPair → Option ℕ) (are : AreNumbered names pairs firsts other) (q : NumberedPair)
    (past : length names ≤ q.name) where
  unnamed : position (is_pair q) pairs ≡ None
  unnamed =
      position-alike (is_pair q) (λ p. false) pairs
      (λ i d lt. ap (λ b. b && (q.version == (get_or pairs i d).version)) (ne_eqb q.name (get_or pairs i d).name (λ same. let inside = are.within i d lt in absurd (omega arith))))
      ∙ position_none (λ p. false) pairs (none_false pairs)

  unkept : other q ≡ None
  unkept = ap (λ o. first_or pairs q.version o (other q)) (sym (slice_get_past firsts q.name (omega (arith, are.begun)))) ∙ are.found q ∙ unnamed

-- a pair of a new name
module _ (names : List (List ℕ)) (pairs : List NumberedPair) (firsts : List ℕ) (other : NumberedPair → Option ℕ) (are : AreNumbered names pairs firsts other) (name : List ℕ) (v : ℕ)
    (fresh : list_any (bytes_eq name) names ≡ false) where
  p : NumberedPair
  p = record { name = length names; version = v }

  abbrev id : Id
  id = (name, v)

  unplaced : position (is_id id) (pair_ids names pairs) ≡ None
  unplaced = no_place names pairs firsts other are name v (position_none (bytes_eq name) names fresh)

  pub new_id : is_among (pair_ids names pairs) id ≡ false
  new_id = sym (is_some-position (is_id id) (pair_ids names pairs)) ∙ ap is_some unplaced

  pub new_ids : pair_ids (with_name names name) (pairs ++ record { name = length names; version = v } ∷ []) ≡ insert_key is_id (pair_ids names pairs) id
  new_ids =
      map_push (pair_id (with_name names name)) pairs (record { name = length names; version = v })
      ∙ (λ i. ids_kept names name pairs are.within i ++ (get_or_push names name [] (length names) refl i, v) ∷ [])
      ∙ sym (fresh_last is_id (pair_ids names pairs) id new_id)

  pub new_numbered : AreNumbered (with_name names name) (pairs ++ record { name = length names; version = v } ∷ []) (firsts ++ length pairs ∷ []) other
  new_numbered = record {
    names_are = ap (λ ns. ns ++ name ∷ []) are.names_are
        ∙ sym (fresh_last bytes_eq (names_of_ids (pair_ids names pairs)) name (ap (list_any (bytes_eq name)) (sym are.names_are) ∙ fresh))
        ∙ sym (names-push (pair_ids names pairs) id)
        ∙ ap names_of_ids (sym (fresh_last is_id (pair_ids names pairs) id new_id) ∙ sym new_ids);
    once = λ n lt. once_by n lt (nat_lt n (length names)) refl;
    within = within_push pairs (record { name = length names; version = v }) (length names) (length (with_name names name)) (omega (arith, length_push names name)) (omega (arith, length_push names name)) are.within;
    begun = omega (arith, are.begun, length_push names name, length_push firsts (length pairs));
    found = λ q. found_by q (nat_lt q.name (length names)) refl;
  }
    where
      once_by : (n : ℕ) → n < length (with_name names name) → (b : Bool) → nat_lt n (length names) ≡ b → position (bytes_eq (get_or (with_name names name) n [])) (with_name names name) ≡ Some n
      once_by n lt true e =
          let below : n < length names = ltb-true n (length names) e in
          ap (λ text. position (bytes_eq text) (with_name names name)) (get_or_append_left names (name ∷ []) [] n below)
          ∙ position_push (bytes_eq (get_or names n [])) names name
          ∙ ap (λ o. option_or o (cond (bytes_eq (get_or names n []) name) (Some (length names)) None)) (are.once n below)
      once_by n lt false e =
          let end : length names ≤ n = ltb-false n (length names) e in
          let last : length names ≡ n = omega (arith, length_push names name) in
          ap (λ text. position (bytes_eq text) (with_name names name)) (get_or_push names name [] n last)
          ∙ position_push (bytes_eq name) names name
          ∙ (λ i. option_or (position_none (bytes_eq name) names fresh i) (cond (text_same name name refl i) (Some (last i)) None))

      found_by : (q : NumberedPair) (b : Bool) → nat_lt q.name (length names) ≡ b
          → kept_index (pairs ++ record { name = length names; version = v } ∷ []) (firsts ++ length pairs ∷ []) other q ≡ position (is_pair q) (pairs ++ record { name = length names; version = v } ∷ [])
      found_by q true e =
          let below : q.name < length names = ltb-true q.name (length names) e in
          ap (λ o. first_or (pairs ++ record { name = length names; version = v } ∷ []) q.version o (other q)) (got_left firsts (length pairs) q.name (omega (arith, are.begun)))
          ∙ kept_before pairs (record { name = length names; version = v }) q.version (slice_get firsts q.name) (other q) (first_within names pairs firsts other are q.name)
          ∙ are.found q ∙ sym (option_or-none (position (is_pair q) pairs))
          ∙ ap (λ c. option_or (position (is_pair q) pairs) (cond (c && (q.version == v)) (Some (length pairs)) None)) (sym (ne_eqb q.name (length names) (λ same. absurd (omega arith))))
          ∙ sym (position_push (is_pair q) pairs (record { name = length names; version = v }))
      found_by q false e =
          let past : length names ≤ q.name = ltb-false q.name (length names) e in
          ended q past (q.name == length names) refl
          ∙ ap (λ o. option_or o (cond (is_pair q (record { name = length names; version = v })) (Some (length pairs)) None)) (sym (unnamed names pairs firsts other are q past))
          ∙ sym (position_push (is_pair q) pairs (record { name = length names; version = v }))
        where
          ended : (q : NumberedPair) → length names ≤ q.name → (b : Bool) → (q.name == length names) ≡ b
              → kept_index (pairs ++ record { name = length names; version = v } ∷ []) (firsts ++ length pairs ∷ []) other q
              ≡ option_or None (cond ((q.name == length names) && (q.version == v)) (Some (length pairs)) None)
          ended q past true same =
              ap (λ o. first_or (pairs ++ record { name = length names; version = v } ∷ []) q.version o (other q)) (got_last firsts (length pairs) q.name (eqb-true q.name (length names) same ∙ sym are.begun))
              ∙ (λ i. cond (version_at-push pairs (record { name = length names; version = v }) i == q.version) (Some (length pairs)) (unkept names pairs firsts other are q past i))
              ∙ ap (λ c. cond c (Some (length pairs)) None) (eqb_sym v q.version)
              ∙ ap (λ c. cond (c && (q.version == v)) (Some (length pairs)) None) (sym same)
          ended q past false differs =
              ap (λ o. first_or (pairs ++ record { name = length names; version = v } ∷ []) q.version o (other q))
              (slice_get_past (firsts ++ length pairs ∷ []) q.name (omega (arith, length_push firsts (length pairs), are.begun, eqb-false q.name (length names) differs)))
              ∙ unkept names pairs firsts other are q past
              ∙ ap (λ c. cond (c && (q.version == v)) (Some (length pairs)) None) (sym differs)

-- where no first pair was taken, what is kept of the others is
others_then : (pairs : List NumberedPair) (version : ℕ) (o old now : Option ℕ) → first_or pairs version o old ≡ None → first_or pairs version o now ≡ now
others_then pairs version None old now none = refl
others_then pairs version (Some first) old now none = by (version_at pairs first == version) none
  where
    by : (b : Bool) → cond b (Some first) old ≡ None → cond b (Some first) now ≡ now
    by true none = absurd cc
    by false none = refl

-- another pair of a name
module _ (names : List (List ℕ)) (pairs : List NumberedPair) (firsts : List ℕ) (other now : NumberedPair → Option ℕ) (are : AreNumbered names pairs firsts other) (p : NumberedPair)
    (inside : p.name < length names) (fresh : position (is_pair p) pairs ≡ None) (grown : (q : NumberedPair) → now q ≡ cond (is_pair p q) (Some (length pairs)) (other q)) where
  other_new : is_among (pair_ids names pairs) (pair_id names p) ≡ false
  other_new = sym (is_some-position (is_id (pair_id names p)) (pair_ids names pairs)) ∙ ap is_some (place_of names pairs firsts other are p inside ∙ fresh)

  pub other_ids : pair_ids names (pairs ++ p ∷ []) ≡ insert_key is_id (pair_ids names pairs) (pair_id names p)
  other_ids = map_push (pair_id names) pairs p ∙ sym (fresh_last is_id (pair_ids names pairs) (pair_id names p) other_new)

  pub other_numbered : AreNumbered names (pairs ++ p ∷ []) firsts now
  other_numbered = record {
    names_are = are.names_are
        ∙ sym (known_kept bytes_eq (names_of_ids (pair_ids names pairs)) (get_or names p.name [])
        (ap (list_any (bytes_eq (get_or names p.name []))) (sym are.names_are)
        ∙ list_any_at (bytes_eq (get_or names p.name [])) names p.name [] inside (text_same (get_or names p.name []) (get_or names p.name []) refl)))
        ∙ sym (names-push (pair_ids names pairs) (pair_id names p))
        ∙ ap names_of_ids (sym (map_push (pair_id names) pairs p));
    once = are.once;
    within = within_push pairs p (length names) (length names) (omega arith) inside are.within;
    begun = are.begun;
    found = λ q. kept_before pairs p q.version (slice_get firsts q.name) (now q) (first_within names pairs firsts other are q.name)
        ∙ ap (first_or pairs q.version (slice_get firsts q.name)) (grown q) ∙ found_by q (is_pair p q) refl
        ∙ sym (position_push (is_pair q) pairs p);
  }
    where
      turned : (q : NumberedPair) → is_pair q p ≡ is_pair p q
      turned q = λ i. eqb_sym q.name p.name i && eqb_sym q.version p.version i

      found_by : (q : NumberedPair) (b : Bool) → is_pair p q ≡ b
          → first_or pairs q.version (slice_get firsts q.name) (cond (is_pair p q) (Some (length pairs)) (other q)) ≡ option_or (position (is_pair q) pairs) (cond (is_pair q p) (Some (length pairs)) None)
      found_by q true e =
          let parts = and_parts (p.name == q.name) (p.version == q.version) e in
          let none : position (is_pair q) pairs ≡ None =
          sym (λ i. position (is_pair (record { name = eqb-true p.name q.name parts.0 i; version = eqb-true p.version q.version parts.1 i })) pairs) ∙ fresh in
          ap (λ b. first_or pairs q.version (slice_get firsts q.name) (cond b (Some (length pairs)) (other q))) e
          ∙ others_then pairs q.version (slice_get firsts q.name) (other q) (Some (length pairs)) (are.found q ∙ none)
          ∙ sym (λ i. option_or (none i) (cond ((turned q ∙ e) i) (Some (length pairs)) None))
      found_by q false e =
          ap (λ b. first_or pairs q.version (slice_get firsts q.name) (cond b (Some (length pairs)) (other q))) e
          ∙ are.found q ∙ sym (option_or-none (position (is_pair q) pairs))
          ∙ ap (λ b. option_or (position (is_pair q) pairs) (cond b (Some (length pairs)) None)) (sym (turned q ∙ e))

-- ---- the first pairs of names, and the numbers of those of given pairs

pub none_numbered : (other : NumberedPair → Option ℕ) → ((p : NumberedPair) → other p ≡ None) → AreNumbered [] [] [] other
none_numbered other none = record {
  names_are = refl;
  once = λ n lt. absurd (omega arith);
  within = λ i d lt. absurd (omega arith);
  begun = refl;
  found = λ p. none p;
}

module _ (names : List (List ℕ)) (pairs : List NumberedPair) (firsts : List ℕ) (other : NumberedPair → Option ℕ) (are : AreNumbered names pairs firsts other) where
  -- the number of the name of a pair is that of its name
  pub number_of_pair : (ids : List Id) (index : ℕ) (q : NumberedPair) (d : Id) → pair_ids names pairs ≡ ids → index < length pairs → q ≡ get_or pairs index q
      → Some q.name ≡ position (bytes_eq (get_or ids index d).0) (names_of_ids ids)
  number_of_pair ids index q d view lt at =
      sym (are.once q.name (subst (λ x. x.name < length names) (sym at) (are.within index q lt)))
      ∙ (λ i. position (bytes_eq (named i)) (listed i))
    where
      named : get_or names q.name [] ≡ (get_or ids index d).0
      named =
          ap (λ x. get_or names x.name []) at ∙ sym (ap (λ (x : Id). x.0) (get_or-map (pair_id names) pairs index q d lt))
          ∙ ap (λ l. (get_or l index d).0) view

      listed : names ≡ names_of_ids ids
      listed = are.names_are ∙ ap names_of_ids view
