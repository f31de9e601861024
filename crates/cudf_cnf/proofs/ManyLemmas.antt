-- Which packages differ from one, by a number that it gives.
use Rattle.std.proofs.Common.{◌≡◌, ℕ, ◌==◌, Bool, true, false, not, ◌&&◌, ◌||◌, nat_lt, List, [], ◌∷◌, ◌++◌, map, filter, Some, None, refl, sym, ap, ◌∙◌, arith, eq-eqb, if◌then◌else◌}
use Rattle.std.specs.Prelude.{Contains}
use Rattle.std.specs.List.{list_any}
use Rattle.std.proofs.lemmas.Bool.{eqb-true, true≢false}
use Rattle.std.proofs.lemmas.Bool.Decides.{nat_tests}
use Rattle.std.proofs.lemmas.List.Elements.{filter_agree}
use Rattle.std.proofs.lemmas.List.Folds.{list_any_at}
use Rattle.cudf_value.specs.declared.vpkg.Relop.TheVariants.{Neq}
use Rattle.cudf_value.specs.Vpkgs.{meets}
use Rattle.cudf_index.specs.Promises.Places.{at, gives_number, numbers_at, places_where}
use Rattle.cudf_index.specs.Satisfaction.{Placed, numbers_of}
use Rattle.cudf_index.specs.Working.Places.{has}
use Rattle.cudf_index.proofs.PlaceLemmas.{has_where}
use Rattle.cudf_index.proofs.SearchLemmas.{list_any-filter}
use Rattle.cudf_job.specs.Keys.{PlainKey}
use Rattle.cudf_lrat.specs.declared.cnf.Literal.{Literal}
use Rattle.cudf_referee.specs.Violations.{are_many}
use Rattle.cudf_referee.proofs.ListLemmas.{filter-both, filter-map, none_kept}
use Rattle.cudf_cnf.specs.Cnf.{Keyed, is_out}
use Rattle.cudf_cnf.specs.Working.Parts.{differing_at, differs_from, keyed}
use Rattle.cudf_cnf.proofs.PairLemmas.{number_any}
use Rattle.cudf_cnf.proofs.PlaceLemmas.{map-map, pair, unit}
use Rattle.cudf_cnf.proofs.TestLemmas.{and-false, and-swap, list_any-same, or_left, passing}

-- ---- lists of numbers

some : (p : ℕ → Bool) (ns : List ℕ) (n : ℕ) → Contains ns n → p n ≡ true → list_any p ns ≡ true
some p ns n among h = list_any_at p ns among.0 n among.1 (ap p among.2 ∙ h)

never : (ns : List ℕ) → list_any (λ n. false) ns ≡ false
never [] = refl
never (n ∷ ns) = never ns

only : (n : ℕ) (ns : List ℕ) (f : ℕ → Bool) → f n ≡ false → list_any (λ k. not (k == n)) ns ≡ false → list_any f ns ≡ false
only n [] f fails h = refl
only n (k ∷ ks) f fails h = by (k == n) refl h (only n ks f fails)
  where
    by : (b : Bool) → (k == n) ≡ b → (not b || list_any (λ j. not (j == n)) ks) ≡ false → (list_any (λ j. not (j == n)) ks ≡ false → list_any f ks ≡ false) → (f k || list_any f ks) ≡ false
    by true same others rest = ap (λ b. b || list_any f ks) (ap f (eqb-true k n same) ∙ fails) ∙ rest others
    by false other others rest = absurd (true≢false others)

module _ (n : ℕ) (ns : List ℕ) (among : Contains ns n) where
  abbrev has_other : Bool
  has_other = list_any (λ k. not (k == n)) ns

  -- where all are the same number, it stands for all
  alike : has_other ≡ false → (f : ℕ → Bool) → list_any f ns ≡ f n
  alike none f = by (f n) refl
    where
      by : (b : Bool) → f n ≡ b → list_any f ns ≡ b
      by true h = some f ns n among h
      by false h = only n ns f h none

  many_by : are_many ns ≡ has_other
  many_by = by has_other refl
    where
      by : (b : Bool) → has_other ≡ b → are_many ns ≡ b
      by true h =
          let other = passing (λ k. not (k == n)) ns h in
          some (λ m. list_any (λ k. not (m == k)) ns) ns other.0 other.1 (some (λ k. not (other.0 == k)) ns n among other.2)
      by false h = alike h (λ m. list_any (λ k. not (m == k)) ns) ∙ alike h (λ k. not (n == k)) ∙ ap not (eq-eqb n n refl)

  -- a package that gives one number differs from those that give another one
  one_differs : has_other ≡ false → (name : List ℕ) (q : Placed) → gives_number name (Some (Neq, n)) q ≡ differs_from name ns q
  one_differs none name q =
      sym (alike none (λ m. list_any (λ k. not (m == k)) (numbers_of name (q ∷ []))) ∙ list_any-same (λ k. not (n == k)) (λ k. not (k == n)) (λ k. ap not (turned k)) (numbers_of name (q ∷ [])))
    where
      turned : (k : ℕ) → (n == k) ≡ (k == n)
      turned k = grind (arith, nat_tests)

  -- and one that gives several from all that give one
  several_differ : has_other ≡ true → (name : List ℕ) (q : Placed) → gives_number name None q ≡ differs_from name ns q
  several_differ h name q = by (numbers_of name (q ∷ []))
    where
      first : (k : ℕ) (ks : List ℕ) (b : Bool) → (n == k) ≡ b → list_any (λ m. not (m == k) || list_any (λ j. not (m == j)) ks) ns ≡ true
      first k ks true same =
          let other = passing (λ j. not (j == n)) ns h in
          some (λ m. not (m == k) || list_any (λ j. not (m == j)) ks) ns other.0 other.1 (or_left (not (other.0 == k)) (list_any (λ j. not (other.0 == j)) ks) (ap (λ (j : ℕ). not (other.0 == j)) (sym (eqb-true n k same)) ∙ other.2))
      first k ks false apart = some (λ m. not (m == k) || list_any (λ j. not (m == j)) ks) ns n among (or_left (not (n == k)) (list_any (λ j. not (n == j)) ks) (ap not apart))

      by : (qs : List ℕ) → list_any (meets None) qs ≡ list_any (λ m. list_any (λ k. not (m == k)) qs) ns
      by [] = sym (never ns)
      by (k ∷ ks) = sym (first k ks (n == k) refl)

-- ---- places

-- the package at the place gives another number where it is one of those that do
pub other_found : (name : List ℕ) (place n : ℕ) (all : List Placed) → has (places_where (gives_number name (Some (Neq, n))) all) place ≡ list_any (λ k. not (k == n)) (numbers_at name place all)
other_found name place n all =
    has_where (gives_number name (Some (Neq, n))) place all
    ∙ sym (list_any-filter (gives_number name (Some (Neq, n))) (λ (q : Placed). q.0 == place) all)
    ∙ sym (number_any (meets (Some (Neq, n))) name (at place all))

later_where : (place : ℕ) (t u : Placed → Bool) → ((q : Placed) → t q ≡ u q) → (all : List Placed) → filter (λ m. nat_lt place m) (places_where t all) ≡ places_where (λ q. nat_lt place q.0 && u q) all
later_where place t u same all =
    filter-map (λ (m : ℕ). nat_lt place m) (λ (q : Placed). q.0) (filter t all)
    ∙ ap (map (λ (q : Placed). q.0))
    (sym (filter-both t (λ (q : Placed). nat_lt place q.0) all)
    ∙ filter_agree (λ (q : Placed). t q && nat_lt place q.0) (λ q. nat_lt place q.0 && u q) (λ q. and-swap (t q) (nat_lt place q.0) ∙ ap (λ b. nat_lt place q.0 && b) (same q)) all)

module _ (all : List Placed) (name : List ℕ) (place : ℕ) (key : PlainKey) where
  abbrev own : List ℕ
  own = numbers_at name place all

  differing_by : (b : Bool) (t : Placed → Bool) (found : List ℕ) → are_many own ≡ b → ((q : Placed) → t q ≡ differs_from name own q) → found ≡ places_where t all
      → (if b then unit key place ∷ [] else []) ++ map (pair key place) (filter (λ m. nat_lt place m) found) ≡ keyed key (differing_at all name place)
  differing_by b t found many same is =
      let later : filter (λ m. nat_lt place m) found ≡ places_where (λ q. nat_lt place q.0 && differs_from name own q) all = ap (filter (λ (m : ℕ). nat_lt place m)) is ∙ later_where place t (differs_from name own) same all in
      (λ i. (if b then unit key place ∷ [] else []) ++ map (pair key place) (later i))
      ∙ by b (places_where (λ q. nat_lt place q.0 && differs_from name own q) all)
      ∙ (λ i. keyed key ((if sym many i then (is_out place ∷ []) ∷ [] else []) ++ map (λ n. is_out place ∷ is_out n ∷ []) (places_where (λ q. nat_lt place q.0 && differs_from name own q) all)))
    where
      by : (b : Bool) (ns : List ℕ) → (if b then unit key place ∷ [] else []) ++ map (pair key place) ns ≡ keyed key ((if b then (is_out place ∷ []) ∷ [] else []) ++ map (λ n. is_out place ∷ is_out n ∷ []) ns)
      by true ns = ap (λ (ks : List Keyed). unit key place ∷ ks) (sym (map-map (λ (clause : List Literal). (key, clause)) (λ n. is_out place ∷ is_out n ∷ []) ns))
      by false ns = sym (map-map (λ (clause : List Literal). (key, clause)) (λ n. is_out place ∷ is_out n ∷ []) ns)

  module _ (n : ℕ) (among : Contains own n) (found : List ℕ) where
    -- the package gives several numbers
    pub several_at : has (places_where (gives_number name (Some (Neq, n))) all) place ≡ true → found ≡ places_where (gives_number name None) all
        → unit key place ∷ map (pair key place) (filter (λ m. nat_lt place m) found) ≡ keyed key (differing_at all name place)
    several_at there is =
        let more = sym (other_found name place n all) ∙ there in
        differing_by true (gives_number name None) found (many_by n own among ∙ more) (several_differ n own among more name) is

    -- it gives one
    pub single_at : has (places_where (gives_number name (Some (Neq, n))) all) place ≡ false → found ≡ places_where (gives_number name (Some (Neq, n))) all
        → map (pair key place) (filter (λ m. nat_lt place m) found) ≡ keyed key (differing_at all name place)
    single_at absent is =
        let none = sym (other_found name place n all) ∙ absent in
        differing_by false (gives_number name (Some (Neq, n))) found (many_by n own among ∙ none) (one_differs n own among none name) is

  -- it gives none
  pub silent_at : own ≡ [] → [] ≡ keyed key (differing_at all name place)
  silent_at empty =
      let none = none_kept (λ (q : Placed). nat_lt place q.0 && differs_from name [] q) (λ q. and-false (nat_lt place q.0)) all in
      (λ i. keyed key (map (λ n. is_out place ∷ is_out n ∷ []) (map (λ (q : Placed). q.0) (sym none i))))
      ∙ (λ i. keyed key ((if are_many (sym empty i) then (is_out place ∷ []) ∷ [] else []) ++ map (λ n. is_out place ∷ is_out n ∷ []) (places_where (λ q. nat_lt place q.0 && differs_from name (sym empty i) q) all)))
