-- Upgrade: the clauses of `many` by the places that give a number of the name, and those of `lower` by the greatest number before.
use Rattle.std.proofs.Common.{◌≡◌, ℕ, suc, ◌+◌, ◌<◌, Bool, true, false, not, ◌&&◌, nat_lt, ◌==◌, List, [], ◌∷◌, ◌++◌, length, get_or, map, filter, refl, sym, subst, ap, ◌∙◌, arith, cond, if◌then◌else◌}
use Rattle.std.specs.Prelude.{Option, Some, None}
use Rattle.std.specs.List.{list_any, flat_map, enumerate_from}
use Rattle.std.proofs.lemmas.Bool.{true≢false}
use Rattle.std.proofs.lemmas.Bool.Decides.{nat_tests}
use Rattle.std.proofs.lemmas.List.Elements.{filter_agree}
use Rattle.std.proofs.lemmas.List.Folds.{flat_map-map, list_any_at, list_any_none}
use Rattle.cudf_problem.specs.Universe.{PlainPackage}
use Rattle.cudf_value.specs.declared.vpkg.Relop.TheVariants.{Lt}
use Rattle.cudf_value.specs.Vpkgs.{meets}
use Rattle.cudf_index.specs.Promises.Counts.{differ}
use Rattle.cudf_index.specs.Promises.Members.{IsGreatest}
use Rattle.cudf_index.specs.Promises.Places.{gives_number, places_where}
use Rattle.cudf_index.specs.Satisfaction.{Placed, numbers_of}
use Rattle.cudf_lrat.specs.declared.cnf.Literal.{Literal}
use Rattle.cudf_referee.specs.Violations.{are_lower, are_many}
use Rattle.cudf_referee.proofs.ListLemmas.{none_kept}
use Rattle.cudf_cnf.specs.Cnf.{differing_clauses, is_out, none_of}
use Rattle.cudf_cnf.specs.Working.Parts.{IsAt, differing_at, differs_from, givers_of, lower_by}
use Rattle.cudf_cnf.proofs.ProblemLemmas.{package_at_index}
use Rattle.cudf_cnf.proofs.PlaceLemmas.{map-map}
use Rattle.cudf_cnf.proofs.TestLemmas.{IsOneOf, and-false, list_any-same, none_where, or_left, or_right}
use Rattle.cudf_cnf.proofs.PairLemmas.{any_pair, many-pair}

-- ---- lower

none : (ns : List ℕ) → list_any (λ n. false) ns ≡ false
none [] = refl
none (n ∷ ns) = none ns

-- a number is below one of those before where it is below the greatest
below_greatest : (before : List ℕ) (most n : ℕ) → IsGreatest before (Some most) → list_any (λ m. nat_lt n m) before ≡ nat_lt n most
below_greatest before most n greatest = by (nat_lt n most) refl
  where
    by : (b : Bool) → nat_lt n most ≡ b → list_any (λ m. nat_lt n m) before ≡ b
    by true h = list_any_at (λ m. nat_lt n m) before greatest.among.0 most greatest.among.1 (ap (λ m. nat_lt n m) greatest.among.2 ∙ h)
    by false h = list_any_none (λ m. nat_lt n m) before (λ k d inside. let at_most = greatest.bound k d inside in grind (arith, nat_tests))

pub lower_same : (all before : List Placed) (name : List ℕ) (greatest : Option ℕ) → IsGreatest (numbers_of name before) greatest → lower_by all name greatest ≡ none_of [] (λ q. are_lower (numbers_of name before) (numbers_of name (q ∷ []))) all
lower_same all before name None greatest =
    let empty : numbers_of name before ≡ [] = greatest.none.0 refl in
    ap (map (λ (q : Placed). is_out q.0 ∷ []))
    (sym (none_kept (λ (q : Placed). are_lower (numbers_of name before) (numbers_of name (q ∷ []))) (λ q. ap (λ old. are_lower old (numbers_of name (q ∷ []))) empty ∙ none (numbers_of name (q ∷ []))) all))
lower_same all before name (Some most) greatest =
    ap (map (λ (q : Placed). is_out q.0 ∷ []))
    (filter_agree (gives_number name (Some (Lt, most))) (λ (q : Placed). are_lower (numbers_of name before) (numbers_of name (q ∷ [])))
    (λ q. sym (list_any-same (λ m. list_any (λ old. nat_lt m old) (numbers_of name before)) (λ m. nat_lt m most) (λ m. below_greatest (numbers_of name before) most m greatest) (numbers_of name (q ∷ [])))) all)

-- ---- many

differing_same : (all : List Placed) (name : List ℕ) (p : Placed) → IsAt all p → differing_at all name p.0 ≡ differing_clauses all name p
differing_same all name p here =
    let own = ap (numbers_of name) here in
    (λ i. (if are_many (own i) then (is_out p.0 ∷ []) ∷ [] else []) ++ map (λ n. is_out p.0 ∷ is_out n ∷ []) (places_where (λ q. nat_lt p.0 q.0 && differs_from name (own i) q) all))
    ∙ ap (λ (ks : List (List Literal)). (if differ name p p then (is_out p.0 ∷ []) ∷ [] else []) ++ ks) (map-map (λ n. is_out p.0 ∷ is_out n ∷ []) (λ (q : Placed). q.0) (filter (λ q. nat_lt p.0 q.0 && differ name p q) all))

silent_empty : (ns : List ℕ) → list_any (meets None) ns ≡ false → ns ≡ []
silent_empty [] h = refl
silent_empty (n ∷ ns) h = absurd (true≢false h)

-- a package that gives no number differs from none
silent : (all : List Placed) (name : List ℕ) (p : Placed) → gives_number name None p ≡ false → [] ≡ differing_clauses all name p
silent all name p h =
    let empty = silent_empty (numbers_of name (p ∷ [])) h in
    let no : (q : Placed) → differ name p q ≡ false = λ q. ap (list_any (λ (m : ℕ). list_any (λ (k : ℕ). not (m == k)) (numbers_of name (q ∷ [])))) empty in
    let none_after = none_kept (λ (q : Placed). nat_lt p.0 q.0 && differ name p q) (λ q. ap (λ b. nat_lt p.0 q.0 && b) (no q) ∙ and-false (nat_lt p.0 q.0)) all in
    (λ i. (if sym (no p) i then (is_out p.0 ∷ []) ∷ [] else []) ++ map (λ (q : Placed). is_out p.0 ∷ is_out q.0 ∷ []) (sym none_after i))

flat_map-filter : {A B : Type 0} (test : A → Bool) (f : A → List B) (xs : List A) → flat_map f (filter test xs) ≡ flat_map (λ x. if test x then f x else []) xs
flat_map-filter test f [] = refl
flat_map-filter test f (x ∷ xs) = by (test x) (flat_map-filter test f xs)
  where
    by : (b : Bool) → flat_map f (filter test xs) ≡ flat_map (λ y. if test y then f y else []) xs → flat_map f (cond b (x ∷ filter test xs) (filter test xs)) ≡ (if b then f x else []) ++ flat_map (λ y. if test y then f y else []) xs
    by true rest = ap (λ ys. f x ++ ys) rest
    by false rest = rest

-- what is the same at each index
same_at : {A B : Type 0} (f g : ℕ × A → List B) (n : ℕ) (xs : List A) → ((i : ℕ) (d : A) → i < length xs → f (n + i, get_or xs i d) ≡ g (n + i, get_or xs i d)) → flat_map f (enumerate_from n xs) ≡ flat_map g (enumerate_from n xs)
same_at f g n [] same = refl
same_at {A} f g n (x ∷ xs) same =
    let first : f (n, x) ≡ g (n, x) = let same_place : n + 0 ≡ n = omega arith in subst (λ (m : ℕ). f (m, x) ≡ g (m, x)) same_place (same 0 x (omega arith)) in
    (λ i. first i ++ same_at f g (n + 1) xs (λ k d inside. let later : n + suc k ≡ n + 1 + k = omega arith in subst (λ (m : ℕ). f (m, get_or xs k d) ≡ g (m, get_or xs k d)) later (same (suc k) d (omega arith))) i)

many_same : (packages : List PlainPackage) (name : List ℕ) → let all = enumerate_from 1 packages in flat_map (differing_at all name) (places_where (gives_number name None) all) ≡ flat_map (differing_clauses all name) all
many_same packages name =
    let all = enumerate_from 1 packages in
    flat_map-map (differing_at all name) (λ (q : Placed). q.0) (filter (gives_number name None) all)
    ∙ flat_map-filter (gives_number name None) (λ (q : Placed). differing_at all name q.0) all
    ∙ same_at (λ (q : Placed). if gives_number name None q then differing_at all name q.0 else []) (differing_clauses all name) 1 packages
    (λ i d inside. let same : i + 1 ≡ 1 + i = omega arith in at (1 + i, get_or packages i d) (subst (λ (m : ℕ). IsAt (enumerate_from 1 packages) (m, get_or packages i d)) same (package_at_index packages i d inside)))
  where
    at : (q : Placed) → IsAt (enumerate_from 1 packages) q → (if gives_number name None q then differing_at (enumerate_from 1 packages) name q.0 else []) ≡ differing_clauses (enumerate_from 1 packages) name q
    at q here = by (gives_number name None q) refl
      where
        by : (b : Bool) → gives_number name None q ≡ b → (if b then differing_at (enumerate_from 1 packages) name q.0 else []) ≡ differing_clauses (enumerate_from 1 packages) name q
        by true h = differing_same (enumerate_from 1 packages) name q here
        by false h = silent (enumerate_from 1 packages) name q h

-- where the packages give one number of the name at most, there is nothing
alike_none : (all : List Placed) (name : List ℕ) → any_pair (differ name) all ≡ false → [] ≡ flat_map (differing_clauses all name) all
alike_none all name alike = sym (nothing_made all (λ p of. none_for p of))
  where
    same : (p q : Placed) → IsOneOf all p → IsOneOf all q → differ name p q ≡ false
    same p q p_of q_of = by (differ name p q) refl
      where
        by : (b : Bool) → differ name p q ≡ b → differ name p q ≡ false
        by true h = let some : any_pair (differ name) all ≡ true = p_of (λ r. list_any (differ name r) all) (q_of (differ name p) h) in cc
        by false h = h

    none_for : (p : Placed) → IsOneOf all p → differing_clauses all name p ≡ []
    none_for p of =
        let none_after = none_where (λ (q : Placed). nat_lt p.0 q.0 && differ name p q) all (λ q q_of. ap (λ b. nat_lt p.0 q.0 && b) (same p q of q_of) ∙ and-false (nat_lt p.0 q.0)) in
        (λ i. (if same p p of of i then (is_out p.0 ∷ []) ∷ [] else []) ++ map (λ (q : Placed). is_out p.0 ∷ is_out q.0 ∷ []) (none_after i))

    nothing_made : (xs : List Placed) → ((p : Placed) → IsOneOf xs p → differing_clauses all name p ≡ []) → flat_map (differing_clauses all name) xs ≡ []
    nothing_made [] h = refl
    nothing_made (x ∷ xs) h =
        (λ i. h x (λ test passes. or_left (test x) (list_any test xs) passes) i ++ nothing_made xs (λ p of. h p (λ test passes. or_right (test x) (list_any test xs) (of test passes))) i)

pub givers_same : (packages : List PlainPackage) (name : List ℕ) → let all = enumerate_from 1 packages in flat_map (differing_at all name) (givers_of all name) ≡ flat_map (differing_clauses all name) all
givers_same packages name = by (are_many (numbers_of name (enumerate_from 1 packages))) refl
  where
    by : (b : Bool) → are_many (numbers_of name (enumerate_from 1 packages)) ≡ b
        → flat_map (differing_at (enumerate_from 1 packages) name) (if b then places_where (gives_number name None) (enumerate_from 1 packages) else []) ≡ flat_map (differing_clauses (enumerate_from 1 packages) name) (enumerate_from 1 packages)
    by true many = many_same packages name
    by false alike = alike_none (enumerate_from 1 packages) name (sym (many-pair name (enumerate_from 1 packages)) ∙ alike)
