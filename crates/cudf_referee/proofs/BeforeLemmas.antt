-- The greatest number of a name, as it is gathered.
use Rattle.std.proofs.Common.{◌≡◌, ℕ, zero, suc, ◌+◌, ◌<◌, ◌≤◌, Bool, true, false, cond, List, [], ◌∷◌, ◌++◌, length, get_or, take, map, Option, Some, None, refl, sym, ap, ◌∙◌, subst, arith, nat_lt, bytes_eq, max, append_assoc, length-append}
use Rattle.std.proofs.Math.Nat.{max-eq_left, max-eq_right}
use Rattle.std.specs.Prelude.{filter, filter_map, slice_get, Contains}
use Rattle.std.specs.List.{cons_option}
use Rattle.std.proofs.lemmas.Bool.{true≢false, ltb-true, ltb-false}
use Rattle.std.proofs.lemmas.List.{append-nil, flat_map_more}
use Rattle.std.proofs.lemmas.List.Elements.{All-push, Contains-push, Contains-append_left}
use Rattle.cudf_value.specs.Vpkgs.{PlainVpkg}
use Rattle.cudf_problem.specs.Universe.{PlainPackage}
use Rattle.cudf_problem.specs.Ids.{Id}
use Rattle.cudf_index.specs.Satisfaction.{Placed, entry_pair, members, gives, numbers_of, package_pairs}
use Rattle.cudf_index.specs.Promises.Members.{IsGreatest}
use Rattle.cudf_referee.specs.Promises.Before.{AreGreatest}
use Rattle.cudf_referee.specs.Working.Before.{with_number, with_pairs, with_entries, greatest_before}
use Rattle.cudf_index.proofs.MemberLemmas.{members_kept, members_left_out}

-- ---- pairs one after the other

module _ (f : List ℕ) where
  pub pairs_none : (g : Option ℕ) → with_pairs f [] g ≡ g
  unfolding with_pairs
  pairs_none g = refl

  pub pairs_one : (pair : Id) (g : Option ℕ) → with_pairs f (pair ∷ []) g ≡ cond (bytes_eq pair.0 f) (with_number g pair.1) g
  unfolding with_pairs
  pairs_one pair g = refl

  pub pairs_first : (pair : Id) (pairs : List Id) (g : Option ℕ) → with_pairs f (pair ∷ pairs) g ≡ with_pairs f pairs (cond (bytes_eq pair.0 f) (with_number g pair.1) g)
  unfolding with_pairs
  pairs_first pair pairs g = refl

  pub pairs-append : (xs ys : List Id) (g : Option ℕ) → with_pairs f (xs ++ ys) g ≡ with_pairs f ys (with_pairs f xs g)
  unfolding with_pairs
  pairs-append [] ys g = refl
  pairs-append (x ∷ xs) ys g = pairs-append xs ys (cond (bytes_eq x.0 f) (with_number g x.1) g)

  abbrev pub named_numbers : List Id → List ℕ
  named_numbers pairs = map (λ pair. pair.1) (filter (λ pair. bytes_eq pair.0 f) pairs)

  -- the greatest of some numbers and one more
  greatest_push : (ns : List ℕ) (n : ℕ) (g : Option ℕ) → IsGreatest ns g → IsGreatest (ns ++ n ∷ []) (with_number g n)
  greatest_push ns n None is = rw (is.none.0 refl) (record {
    none = (λ e. absurd (true≢false e), λ e. absurd (omega (arith, ap length e)));
    among = Contains-push [] n;
    bound = All-push (λ m. m ≤ n) [] n (λ k d inside. absurd (omega (arith, inside))) (omega arith);
  })
  greatest_push ns n (Some m) is = record {
    none = (λ e. absurd (true≢false e), λ e. absurd (omega (arith, ap length e, length-append ns (n ∷ []))));
    among = by (nat_lt m n) refl;
    bound = All-push (λ k. k ≤ max m n) ns n (λ k d inside. omega (arith, is.bound k d inside)) (omega arith);
  }
    where
      by : (b : Bool) → nat_lt m n ≡ b → Contains (ns ++ n ∷ []) (max m n)
      by true e = subst (Contains (ns ++ n ∷ [])) (sym (max-eq_right (omega (arith, ltb-true m n e)))) (Contains-push ns n)
      by false e = subst (Contains (ns ++ n ∷ [])) (sym (max-eq_left (ltb-false m n e))) (Contains-append_left ns (n ∷ []) m is.among)

  -- the greatest of some numbers, and of those of the name in more pairs
  greatest_pairs : (pairs : List Id) (ns : List ℕ) (g : Option ℕ) → IsGreatest ns g → IsGreatest (ns ++ named_numbers pairs) (with_pairs f pairs g)
  unfolding with_pairs
  greatest_pairs [] ns g is = subst (λ ms. IsGreatest ms g) (sym (append-nil ns)) is
  greatest_pairs (pair ∷ pairs) ns g is =
      by (bytes_eq pair.0 f)
      (subst (λ ms. IsGreatest ms (with_pairs f pairs (with_number g pair.1))) (append_assoc ns (pair.1 ∷ []) (named_numbers pairs))
      (greatest_pairs pairs (ns ++ pair.1 ∷ []) (with_number g pair.1) (greatest_push ns pair.1 g is)))
      (greatest_pairs pairs ns g is)
    where
      by : (b : Bool) → IsGreatest (ns ++ pair.1 ∷ named_numbers pairs) (with_pairs f pairs (with_number g pair.1)) → IsGreatest (ns ++ named_numbers pairs) (with_pairs f pairs g)
          → IsGreatest (ns ++ map (λ p. p.1) (cond b (pair ∷ filter (λ p. bytes_eq p.0 f) pairs) (filter (λ p. bytes_eq p.0 f) pairs))) (with_pairs f pairs (cond b (with_number g pair.1) g))
      by true own other = own
      by false own other = other

  pub greatest_of_status : (status : List Placed) → IsGreatest (numbers_of f status) (with_pairs f (gives status) None)
  greatest_of_status status = greatest_pairs (gives status) [] None (record { none = (λ e. refl, λ e. refl); among = tt; bound = tt })

  -- the next entry, where it has a number
  pub entries-step : (e : PlainVpkg) (es : List PlainVpkg) (pair : Id) (old now : Option ℕ) → entry_pair e ≡ Some pair → now ≡ cond (bytes_eq pair.0 f) (with_number old pair.1) old
      → with_entries f es now ≡ with_entries f (e ∷ es) old
  entries-step e es pair old now has is =
      ap (with_pairs f (filter_map entry_pair es)) is ∙ sym (pairs_first pair (filter_map entry_pair es) old)
      ∙ ap (λ o. with_pairs f (cons_option o (filter_map entry_pair es)) old) (sym has)

module _ {A : Type 0} (view : A → PlainPackage) (f : List ℕ) (holds : ℕ → Bool) (xs : List A) (i : ℕ) (d : A) (inside : i < length xs) where
  pub greatest_kept : (old now : Option ℕ) → holds (i + 1) ≡ true → old ≡ with_pairs f (gives (members holds (map view (take i xs)))) None → now ≡ with_pairs f (package_pairs (view (get_or xs i d))) old
      → now ≡ with_pairs f (gives (members holds (map view (take (i + 1) xs)))) None
  greatest_kept old now e before more =
      let status = members holds (map view (take i xs)) in
      let p : Placed = (i + 1, view (get_or xs i d)) in
      more ∙ ap (with_pairs f (package_pairs p.1)) before ∙ sym (pairs-append f (gives status) (package_pairs p.1) None)
      ∙ ap (λ pairs. with_pairs f pairs None) (flat_map_more (λ (q : Placed). package_pairs q.1) [] status p)
      ∙ ap (λ ms. with_pairs f (gives ms) None) (sym (members_kept view holds xs i d inside e))

  pub greatest_left_out : (old : Option ℕ) → holds (i + 1) ≡ false → old ≡ with_pairs f (gives (members holds (map view (take i xs)))) None
      → old ≡ with_pairs f (gives (members holds (map view (take (i + 1) xs)))) None
  greatest_left_out old e before = before ∙ ap (λ ms. with_pairs f (gives ms) None) (sym (members_left_out view holds xs i d inside e))

-- what is gathered of each entry is the greatest of its name
pub all-greatest : (status : List Placed) (upgrade : List PlainVpkg) (before : List (Option ℕ)) → before ≡ map (greatest_before status) upgrade → AreGreatest status upgrade before
all-greatest status upgrade before same = subst (AreGreatest status upgrade) (sym same) (each upgrade)
  where
    each : (vs : List PlainVpkg) → AreGreatest status vs (map (greatest_before status) vs)
    each [] = tt
    each (v ∷ vs) = (greatest_of_status v.name status, each vs)

-- what is kept of an entry of `upgrade` is the greatest of its name
pub greatest-at : (status : List Placed) (upgrade : List PlainVpkg) (before : List (Option ℕ)) (i : ℕ) (v : PlainVpkg) (greatest : Option ℕ) → AreGreatest status upgrade before
    → slice_get upgrade i ≡ Some v → ((kept : Option ℕ) → slice_get before i ≡ Some kept → greatest ≡ kept) → IsGreatest (numbers_of v.name status) greatest
greatest-at status [] before i v greatest are is kept = absurd (cc is)
greatest-at status (w ∷ ws) [] i v greatest are is kept = absurd are
greatest-at status (w ∷ ws) (g ∷ gs) zero v greatest are is kept =
    let same : w ≡ v = cc in
    subst (λ (u : PlainVpkg). IsGreatest (numbers_of u.name status) greatest) same (subst (IsGreatest (numbers_of w.name status)) (sym (kept g refl)) are.0)
greatest-at status (w ∷ ws) (g ∷ gs) (suc i) v greatest are is kept = greatest-at status ws gs i v greatest are.1 is kept
