-- What a solution proposes, placed in a universe one stanza after the other.
use Rattle.std.proofs.Common.{◌≡◌, ◌≢◌, ◌⊎◌, ℕ, suc, ◌+◌, ◌-◌, ◌<◌, ◌==◌, nat_eq, nat_lt, Bool, true, false, not, ◌||◌, ◌&&◌, List, [], ◌∷◌, ◌++◌, map, length, get_or, set, replicate, position, slice_get, Option, None, Some, is_some, filter_map, inl, inr, refl, sym, ap, subst, ◌∙◌, arith, if◌then◌else◌, option_map, option_and_then}
use Rattle.std.proofs.Math.Bool.{or-false, or-true}
use Rattle.std.proofs.lemmas.Bool.{true≢false, cases_order, cases_eq}
use Rattle.std.proofs.lemmas.Bool.Decides.{nat_tests}
use Rattle.std.proofs.lemmas.List.{length-set, length-map, map_push, get_or-set_same, get_or-set_other, get_or-map, same_lists}
use Rattle.std.proofs.lemmas.List.Elements.{filter_map-append}
use Rattle.std.proofs.lemmas.List.Folds.{list_any-append}
use Rattle.std.proofs.lemmas.List.Quantifiers.{position-Some}
use Rattle.std.proofs.lemmas.Option.{slice_get-map}
use Rattle.std.specs.FinSet as finset
use Rattle.std.specs.List.{list_any, prefix_len, enumerate_from, cons_option}
use Rattle.std.specs.Option.{option_map_or}
use Rattle.cudf_text.specs.Stanzas.{PlainStanza}
use Rattle.cudf_problem.specs.declared.solution.Solution.{Solution}
use Rattle.cudf_document.specs.declared.solution.InstalledFlags.{InstalledFlags}
use Rattle.cudf_problem.specs.Ids.{Id, is_id, is_among}
use Rattle.cudf_problem.specs.Promises.Packages.{are_distinct}
use Rattle.cudf_problem.specs.Promises.Statuses.{are_outside, installed_with, installed_of, installed_stanzas}
use Rattle.cudf_problem.specs.Promises.Views.{unknown_view}
use Rattle.cudf_problem.specs.Statuses.{PlainUnknown, installed_id, is_proposed, unknown_of, ascend_above}
use Rattle.cudf_problem.specs.Universe.{PlainPackage, PlainProblem, package_id}
use Rattle.cudf_problem.specs.Working.Flags.{flag_at}
use Rattle.cudf_document.specs.Working.InstalledFlags.{ids_of, pair_of, if_outside, IsPlaced, IsSolutionOf}
use Rattle.cudf_document.proofs.BuilderLemmas.{same_pair}
use Rattle.cudf_problem.proofs.IdLemmas.{distinct-places}
use Rattle.cudf_problem.proofs.FlagLemmas.{flag_at-flags}
use Rattle.cudf_document.proofs.NameLemmas.{bytes_eq-sym}
use Rattle.cudf_document.proofs.ProposedLemmas.{installed_ids, installed_pairs}
use Rattle.cudf_problem.proofs.StatusLemmas.{within_universe, unknown_with, unknown_ascend, unknown_outside}

-- ---- pairs

pub is_id-sym : (x y : Id) → is_id x y ≡ is_id y x
is_id-sym x y = λ i. bytes_eq-sym x.0 y.0 i && same_numbers i
  where
    same_numbers : nat_eq x.1 y.1 ≡ nat_eq y.1 x.1
    same_numbers = grind (arith, nat_tests)

-- ---- places

first_within : {A : Type 0} (test : A → Bool) (xs : List A) → nat_lt (prefix_len (λ x. not (test x)) xs) (length xs) ≡ list_any test xs
first_within test [] = refl
first_within {A} test (x ∷ xs) = by (test x) (first_within test xs)
  where
    zero_below : (n : ℕ) → nat_lt 0 (suc n) ≡ true
    zero_below n = grind (arith, nat_tests)

    both_more : (m n : ℕ) → nat_lt (1 + m) (suc n) ≡ nat_lt m n
    both_more m n = grind (arith, nat_tests)

    by : (b : Bool) → nat_lt (prefix_len (λ y. not (test y)) xs) (length xs) ≡ list_any test xs
        → nat_lt (if not b then 1 + prefix_len (λ y. not (test y)) xs else 0) (suc (length xs)) ≡ (b || list_any test xs)
    by true rest = zero_below (length xs)
    by false rest = both_more (prefix_len (λ y. not (test y)) xs) (length xs) ∙ rest

pub is_some-position : {A : Type 0} (test : A → Bool) (xs : List A) → is_some (position test xs) ≡ list_any test xs
is_some-position test xs = by (nat_lt (prefix_len (λ x. not (test x)) xs) (length xs)) ∙ first_within test xs
  where
    by : (b : Bool) → is_some (if b then Some (prefix_len (λ x. not (test x)) xs) else None) ≡ b
    by true = refl
    by false = refl

-- ---- flags

-- a pair that is no one of these sets no flag
unflagged : (seen ids : List Id) (id : Id) → list_any (is_id id) ids ≡ false → map (is_among seen) ids ≡ map (is_among (seen ++ id ∷ [])) ids
unflagged seen [] id none = refl
unflagged seen (x ∷ ids) id none = by (is_id id x) refl none (unflagged seen ids id)
  where
    by : (b : Bool) → is_id id x ≡ b → (b || list_any (is_id id) ids) ≡ false
        → (list_any (is_id id) ids ≡ false → map (is_among seen) ids ≡ map (is_among (seen ++ id ∷ [])) ids)
        → is_among seen x ∷ map (is_among seen) ids ≡ is_among (seen ++ id ∷ []) x ∷ map (is_among (seen ++ id ∷ [])) ids
    by true is h rest = absurd (true≢false h)
    by false is h rest = λ i. same i ∷ rest h i
      where
        same : is_among seen x ≡ is_among (seen ++ id ∷ []) x
        same = sym (list_any-append (is_id x) seen (id ∷ []) ∙ (λ j. is_among seen x || ((is_id-sym x id ∙ is) j || false)) ∙ or-false (is_among seen x))

module _ (seen ids : List Id) (id : Id) (distinct : are_distinct ids ≡ true) (i : ℕ) (found : position (is_id id) ids ≡ Some i) where
  pub within : i < length ids
  within = (position-Some (is_id id) ids i id found).0

  pub there : is_id id (get_or ids i id) ≡ true
  there = (position-Some (is_id id) ids i id found).1

  pub apart : (k : ℕ) → k < length ids → k ≢ i → is_id (get_or ids k id) id ≡ false
  apart k lt ne = ap (is_id (get_or ids k id)) (same_pair id (get_or ids i id) there) ∙ by (cases_order k i)
    where
      by : (k ≡ i) ⊎ ((k < i) ⊎ (i < k)) → is_id (get_or ids k id) (get_or ids i id) ≡ false
      by (inl e) = absurd (ne e)
      by (inr (inl below)) = is_id-sym (get_or ids k id) (get_or ids i id) ∙ distinct-places ids k i id distinct below within
      by (inr (inr above)) = distinct-places ids i k id distinct above lt

  among_more : (x : Id) → is_among (seen ++ id ∷ []) x ≡ (is_among seen x || is_id x id)
  among_more x = list_any-append (is_id x) seen (id ∷ []) ∙ ap (λ b. is_among seen x || b) (or-false (is_id x id))

  flag_at_place : (k : ℕ) (d : Bool) → k < length ids → get_or (set (map (is_among seen) ids) i true) k d ≡ is_among (seen ++ id ∷ []) (get_or ids k id)
  flag_at_place k d lt = elim (cases_eq k i) [ inl e ↦ at_place k e | inr ne ↦ elsewhere ne ]
    where
      at_place : (j : ℕ) → j ≡ i → get_or (set (map (is_among seen) ids) i true) j d ≡ is_among (seen ++ id ∷ []) (get_or ids j id)
      at_place j e =
          ap (λ n. get_or (set (map (is_among seen) ids) i true) n d) e
          ∙ get_or-set_same (map (is_among seen) ids) i true d (subst (λ n. i < n) (sym (length-map ids (is_among seen))) within)
          ∙ sym (among_more (get_or ids j id) ∙ ap (λ n. is_among seen (get_or ids j id) || is_id (get_or ids n id) id) e
          ∙ ap (λ b. is_among seen (get_or ids j id) || b) (is_id-sym (get_or ids i id) id ∙ there) ∙ or-true (is_among seen (get_or ids j id)))

      elsewhere : k ≢ i → get_or (set (map (is_among seen) ids) i true) k d ≡ is_among (seen ++ id ∷ []) (get_or ids k id)
      elsewhere ne =
          get_or-set_other (map (is_among seen) ids) i k true d ne ∙ get_or-map (is_among seen) ids k id d lt
          ∙ sym (among_more (get_or ids k id) ∙ ap (λ b. is_among seen (get_or ids k id) || b) (apart k lt ne) ∙ or-false (is_among seen (get_or ids k id)))

  -- a pair at a place sets that flag alone
  flagged : set (map (is_among seen) ids) i true ≡ map (is_among (seen ++ id ∷ [])) ids
  flagged =
      let len : length (set (map (is_among seen) ids) i true) ≡ length ids = length-set (map (is_among seen) ids) i true ∙ length-map ids (is_among seen) in
      same_lists (set (map (is_among seen) ids) i true) (map (is_among (seen ++ id ∷ [])) ids) (len ∙ sym (length-map ids (is_among (seen ++ id ∷ []))))
      (λ k d lt. let inside : k < length ids = subst (λ n. k < n) len lt in
      flag_at_place k d inside ∙ sym (get_or-map (is_among (seen ++ id ∷ [])) ids k id d inside))

abbrev pub set_flag : Option ℕ → List Bool → List Bool
set_flag None flags = flags
set_flag (Some i) flags = set flags i true

-- the flags, with that of one more pair
pub flags_next : (ids seen : List Id) (id : Id) (flags : List Bool) (o : Option ℕ) → are_distinct ids ≡ true → o ≡ position (is_id id) ids → flags ≡ map (is_among seen) ids
    → set_flag o flags ≡ map (is_among (seen ++ id ∷ [])) ids
flags_next ids seen id flags o distinct found are = ap (set_flag o) are ∙ by o (sym found)
  where
    by : (o : Option ℕ) → position (is_id id) ids ≡ o → set_flag o (map (is_among seen) ids) ≡ map (is_among (seen ++ id ∷ [])) ids
    by None none = unflagged seen ids id (sym (is_some-position (is_id id) ids) ∙ ap is_some none)
    by (Some i) found = flagged seen ids id distinct i found

pub none_flagged : (ids : List Id) → replicate (length ids) false ≡ map (is_among []) ids
none_flagged [] = refl
none_flagged (id ∷ ids) = ap (λ l. false ∷ l) (none_flagged ids)

-- ---- one more stanza that installs a pair

pub IsPlaced-next : (problem : PlainProblem) (before : List PlainUnknown) (u : PlainUnknown) (old new : InstalledFlags) (o : Option ℕ)
    → are_distinct (ids_of problem) ≡ true → o ≡ position (is_id (pair_of u)) (ids_of problem) → IsPlaced problem before old
    → new.flags.items ≡ set_flag o old.flags.items → map unknown_view new.unknown.items ≡ map unknown_view old.unknown.items ++ (if is_some o then [] else u ∷ [])
    → IsPlaced problem (before ++ u ∷ []) new
IsPlaced-next problem before u old new o distinct found so_far flags_is unknown_is = record {
  flags_are = flags_is ∙ flags_next (ids_of problem) (map pair_of before) (pair_of u) old.flags.items o distinct found so_far.flags_are
      ∙ ap (λ ids. map (is_among ids) (ids_of problem)) (sym (map_push pair_of before u));
  unknown_are = unknown_is
      ∙ (λ i. so_far.unknown_are i ++ (if (ap is_some found ∙ is_some-position (is_id (pair_of u)) (ids_of problem)) i then [] else u ∷ []))
      ∙ ap (λ l. filter_map (if_outside problem) before ++ l) (by (is_among (ids_of problem) (pair_of u)))
      ∙ sym (filter_map-append (if_outside problem) before (u ∷ []));
}
  where
    by : (b : Bool) → (if b then [] else u ∷ []) ≡ cons_option (if b then None else Some u) []
    by true = refl
    by false = refl

-- ---- unknown stanzas

-- those that install a pair which isn't in the universe
unknown_installed : (problem : PlainProblem) (n : ℕ) (stanzas : List PlainStanza)
    → filter_map (if_outside problem) (filter_map installed_of (enumerate_from n stanzas)) ≡ filter_map (unknown_of problem) (enumerate_from n stanzas)
unknown_installed problem n [] = refl
unknown_installed problem n (s ∷ stanzas) = by (installed_id s) (unknown_installed problem (n + 1) stanzas)
  where
    by : (o : Option Id) → filter_map (if_outside problem) (filter_map installed_of (enumerate_from (n + 1) stanzas)) ≡ filter_map (unknown_of problem) (enumerate_from (n + 1) stanzas)
        → filter_map (if_outside problem) (cons_option (option_map (installed_with n s.line) o) (filter_map installed_of (enumerate_from (n + 1) stanzas)))
        ≡ cons_option (option_and_then (unknown_with problem n s.line) o) (filter_map (unknown_of problem) (enumerate_from (n + 1) stanzas))
    by None rest = rest
    by (Some id) rest = ap (cons_option (unknown_with problem n s.line id)) rest

-- ---- the proposed status

flags_propose : (problem : PlainProblem) (stanzas : List PlainStanza) (place : ℕ)
    → option_map_or (is_among (installed_ids stanzas)) (if place == 0 then None else slice_get (ids_of problem) (place - 1)) false ≡ is_proposed problem stanzas place
flags_propose problem stanzas place = by (place == 0)
  where
    through : (o : Option PlainPackage) → option_map_or (is_among (installed_ids stanzas)) (option_map package_id o) false ≡ option_map_or (λ p. is_among (installed_ids stanzas) (package_id p)) o false
    through None = refl
    through (Some p) = refl

    by : (b : Bool) → option_map_or (is_among (installed_ids stanzas)) (if b then None else slice_get (ids_of problem) (place - 1)) false
        ≡ option_map_or (λ p. is_among (installed_ids stanzas) (package_id p)) (if b then None else slice_get problem.packages (place - 1)) false
    by true = refl
    by false = ap (λ o. option_map_or (is_among (installed_ids stanzas)) o false) (slice_get-map package_id problem.packages (place - 1)) ∙ through (slice_get problem.packages (place - 1))

-- placed it is what the stanzas propose
pub IsSolutionOf-placed : (problem : PlainProblem) (stanzas : List PlainStanza) (installed : List PlainUnknown) (p : InstalledFlags) (s : Solution)
    → installed ≡ installed_stanzas stanzas → IsPlaced problem installed p
    → ((place : ℕ) → finset.contains s.status place ≡ flag_at p.flags.items place) → s.unknown.items ≡ p.unknown.items
    → IsSolutionOf problem stanzas s
IsSolutionOf-placed problem stanzas installed p s is placed flags unknown =
    let flags_are = placed.flags_are ∙ ap (λ us. map (is_among (map pair_of us)) (ids_of problem)) is
    ∙ ap (λ ids. map (is_among ids) (ids_of problem)) (sym (installed_pairs 1 stanzas)) in
    let proposed = λ (place : ℕ). flags place ∙ ap (λ fs. flag_at fs place) flags_are
    ∙ flag_at-flags (is_among (installed_ids stanzas)) (ids_of problem) place ∙ flags_propose problem stanzas place in
    let others = ap (map unknown_view) unknown ∙ placed.unknown_are ∙ ap (filter_map (if_outside problem)) is ∙ unknown_installed problem 1 stanzas in
    record {
      status = proposed;
      within = λ place there. within_universe (λ q. is_among (installed_ids stanzas) (package_id q)) problem place (sym (proposed place) ∙ there);
      unknown = others;
      ascending = ap (ascend_above 0) others ∙ unknown_ascend problem stanzas;
      outside = ap (are_outside problem) others ∙ unknown_outside problem stanzas;
    }
