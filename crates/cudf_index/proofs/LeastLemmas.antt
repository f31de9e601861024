-- The least number that the package at a place gives of a name, entry by entry.
use Rattle.std.proofs.Common.{◌≡◌, ℕ, zero, suc, ◌+◌, ◌<◌, ◌≤◌, ◌==◌, min, Bool, true, false, cond, List, [], ◌∷◌, length, get_or, map, filter, Option, Some, None, refl, sym, subst, ap, ◌∙◌, arith, inl, inr, bytes_eq}
use Rattle.std.specs.Prelude.{Contains, filter_map, find, option_map, option_to_list}
use Rattle.std.specs.List.{fold, cons_option}
use Rattle.std.proofs.lemmas.Bool.{cases_lt, eqb-true, true≢false}
use Rattle.std.proofs.lemmas.List.{append-nil}
use Rattle.std.proofs.lemmas.List.Elements.{All-cons, All-nil}
use Rattle.std.proofs.Math.Nat.{min-le_left, min-le_right}
use Rattle.cudf_value.specs.declared.vpkg.Relop.{Relop}
use Rattle.cudf_value.specs.Vpkgs.{PlainVpkg}
use Rattle.cudf_problem.specs.Ids.{Id}
use Rattle.cudf_problem.specs.Universe.{PlainPackage}
use Rattle.cudf_index.specs.Promises.Members.{IsLeast}
use Rattle.cudf_index.specs.Promises.Places.{numbers_at}
use Rattle.cudf_index.specs.Satisfaction.{Placed, entry_pair, members, numbers_of, package_pairs}
use Rattle.cudf_index.specs.Working.Members.{lesser, lesser_if, lesser_of}
use Rattle.cudf_index.proofs.EndLemmas.{least_none}
use Rattle.cudf_index.proofs.TakenOffLemmas.{find_below, held}

-- ---- one number after the other

among_both : (m n x : ℕ) (ns : List ℕ) → Contains (min m n ∷ ns) x → Contains (m ∷ n ∷ ns) x
among_both m n x ns at = by at.0 at.1 at.2
  where
    by : (k : ℕ) → k < length (min m n ∷ ns) → get_or (min m n ∷ ns) k x ≡ x → Contains (m ∷ n ∷ ns) x
    by zero inside is = elim (cases_lt m n) [
      | inl less ↦ (0, omega arith, omega arith)
      | inr more ↦ (1, omega arith, omega arith)
    ]
    by (suc k) inside is = (suc (suc k), omega arith, is)

-- the lesser of the first two stands for both
least_both : (m n : ℕ) (ns : List ℕ) (least : Option ℕ) → IsLeast (min m n ∷ ns) least → IsLeast (m ∷ n ∷ ns) least
least_both m n ns None l = absurd (omega (arith, ap length (l.none.0 refl)))
least_both m n ns (Some x) l =
    let lowest : x ≤ min m n = l.bound 0 0 (omega arith) in
    record {
      none = (λ e. absurd (true≢false e), λ e. absurd (omega (arith, ap length e)));
      among = among_both m n x ns l.among;
      bound = All-cons (λ k. x ≤ k) m (n ∷ ns) (omega (arith, min-le_left m n)) (All-cons (λ k. x ≤ k) n ns (omega (arith, min-le_right m n)) (λ k d inside. l.bound (suc k) d (omega arith)));
    }

least_from : (n : ℕ) (ns : List ℕ) → IsLeast (n ∷ ns) (fold lesser (Some n) ns)
least_from n [] = record {
  none = (λ e. absurd (true≢false e), λ e. absurd (omega (arith, ap length e)));
  among = (0, omega arith, refl);
  bound = All-cons (λ k. n ≤ k) n [] (omega arith) (All-nil (λ k. n ≤ k));
}
least_from m (n ∷ ns) = least_both m n ns (fold lesser (Some (min m n)) ns) (least_from (min m n) ns)

least_of : (ns : List ℕ) → IsLeast ns (fold lesser None ns)
least_of [] = least_none
least_of (n ∷ ns) = least_from n ns

-- ---- one entry after the other

module _ (name : List ℕ) where
  abbrev numbers_in : List Id → List ℕ
  numbers_in pairs = map (λ pair. pair.1) (filter (λ pair. bytes_eq pair.0 name) pairs)

  entries_least : (least : Option ℕ) (es : List PlainVpkg) → fold (lesser_of name) least es ≡ fold lesser least (numbers_in (filter_map entry_pair es))
  entries_least least [] = refl
  entries_least least (e ∷ es) = by e.bound (bytes_eq e.name name) refl (λ first. entries_least first es)
    where
      by : (b : Option (Relop × ℕ)) (same : Bool) → bytes_eq e.name name ≡ same → ((first : Option ℕ) → fold (lesser_of name) first es ≡ fold lesser first (numbers_in (filter_map entry_pair es)))
          → fold (lesser_of name) (lesser_if same least b) es ≡ fold lesser least (numbers_in (cons_option (option_map (λ given. (e.name, given.1)) b) (filter_map entry_pair es)))
      by None same is rest = rest least
      by (Some given) true is rest =
          rest (lesser least given.1)
          ∙ ap (λ b. fold lesser least (map (λ (pair : Id). pair.1) (cond b ((e.name, given.1) ∷ filter (λ pair. bytes_eq pair.0 name) (filter_map entry_pair es)) (filter (λ pair. bytes_eq pair.0 name) (filter_map entry_pair es))))) (sym is)
      by (Some given) false is rest =
          rest least
          ∙ ap (λ b. fold lesser least (map (λ (pair : Id). pair.1) (cond b ((e.name, given.1) ∷ filter (λ pair. bytes_eq pair.0 name) (filter_map entry_pair es)) (filter (λ pair. bytes_eq pair.0 name) (filter_map entry_pair es))))) (sym is)

  abbrev own_and : Placed → Bool → List ℕ
  own_and q same = map (λ (pair : Id). pair.1) (cond same ((q.1.name, q.1.version) ∷ filter (λ pair. bytes_eq pair.0 name) (filter_map entry_pair q.1.provides)) (filter (λ pair. bytes_eq pair.0 name) (filter_map entry_pair q.1.provides)))

  package_numbers : (q : Placed) (same : Bool) → bytes_eq q.1.name name ≡ same → numbers_of name (q ∷ []) ≡ own_and q same
  package_numbers q same is = ap numbers_in (append-nil (package_pairs q.1)) ∙ ap (own_and q) is

  -- of a package that has the name, and of one that hasn't
  pub least_own : (q : Placed) (least : Option ℕ) → bytes_eq q.1.name name ≡ true → least ≡ fold (lesser_of name) (Some q.1.version) q.1.provides → IsLeast (numbers_of name (q ∷ [])) least
  least_own q least own told =
      subst (λ ns. IsLeast ns least) (sym (package_numbers q true own))
      (subst (λ o. IsLeast (own_and q true) o) (sym (told ∙ entries_least (Some q.1.version) q.1.provides)) (least_from q.1.version (own_and q false)))

  pub least_other : (q : Placed) (least : Option ℕ) → bytes_eq q.1.name name ≡ false → least ≡ fold (lesser_of name) None q.1.provides → IsLeast (numbers_of name (q ∷ [])) least
  least_other q least other told =
      subst (λ ns. IsLeast ns least) (sym (package_numbers q false other))
      (subst (λ o. IsLeast (own_and q false) o) (sym (told ∙ entries_least None q.1.provides)) (least_of (own_and q false)))

-- ---- the package at a place

module _ (holds : ℕ → Bool) where
  there_alone : (place n : ℕ) (xs : List PlainPackage) → filter (λ q. q.0 == place) (held holds n xs) ≡ option_to_list (find (λ q. q.0 == place) (held holds n xs))
  there_alone place n [] = refl
  there_alone place n (x ∷ xs) = by (holds n) (there_alone place (n + 1) xs)
    where
      rest : List Placed
      rest = held holds (n + 1) xs

      here : (b : Bool) → (n == place) ≡ b → filter (λ q. q.0 == place) rest ≡ option_to_list (find (λ q. q.0 == place) rest)
          → cond b ((n, x) ∷ filter (λ q. q.0 == place) rest) (filter (λ q. q.0 == place) rest) ≡ option_to_list (cond b (Some (n, x)) (find (λ q. q.0 == place) rest))
      here true e more = let same = eqb-true n place e in ap (λ (qs : List Placed). (n, x) ∷ qs) (more ∙ ap option_to_list (find_below holds place (n + 1) xs (omega arith)))
      here false e more = more

      by : (b : Bool) → filter (λ q. q.0 == place) rest ≡ option_to_list (find (λ q. q.0 == place) rest)
          → filter (λ q. q.0 == place) (cond b ((n, x) ∷ rest) rest) ≡ option_to_list (find (λ q. q.0 == place) (cond b ((n, x) ∷ rest) rest))
      by true more = here (n == place) refl more
      by false more = more

  -- of a status as it is kept
  pub least_there : (packages : List PlainPackage) (status : List Placed) → members holds packages ≡ status → (name : List ℕ) (place : ℕ) (o : Option Placed) → o ≡ find (λ q. q.0 == place) status
      → (least : Option ℕ) → IsLeast (numbers_of name (option_to_list o)) least → IsLeast (numbers_at name place status) least
  least_there packages status view name place o found least known =
      subst (λ (qs : List Placed). IsLeast (numbers_of name qs) least)
      (ap option_to_list found ∙ subst (λ (s : List Placed). option_to_list (find (λ q. q.0 == place) s) ≡ filter (λ q. q.0 == place) s) view (sym (there_alone place 1 packages))) known
