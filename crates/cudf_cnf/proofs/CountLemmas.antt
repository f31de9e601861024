-- How many clauses there are, by how many packages pass tests.
use Rattle.std.proofs.Common.{◌≡◌, ℕ, ◌+◌, ◌<◌, ◌==◌, Bool, not, ◌&&◌, nat_lt, List, [], ◌∷◌, ◌++◌, length, filter, cond, refl, sym, subst, ap, ◌∙◌, arith, length-append}
use Rattle.std.specs.List.{count_by, enumerate_from, flat_map, list_any, sum_by}
use Rattle.std.proofs.lemmas.Bool.Decides.{nat_tests}
use Rattle.std.proofs.lemmas.Grind.{common_steps}
use Rattle.std.proofs.lemmas.List.{length-map}
use Rattle.std.proofs.lemmas.List.Concat.{length-flat_map}
use Rattle.std.proofs.lemmas.List.Sums.{length-filter, sum_by-cons}
use Rattle.cudf_problem.specs.Universe.{PlainPackage, PlainProblem}
use Rattle.cudf_value.specs.Vpkgs.{PlainVpkg}
use Rattle.cudf_index.specs.Promises.Places.{at}
use Rattle.cudf_index.specs.Satisfaction.{Placed, meets_alone, satisfies, without}
use Rattle.cudf_index.proofs.SatisfactionLemmas.{member_alone}
use Rattle.cudf_lrat.specs.declared.cnf.Literal.{Literal}
use Rattle.cudf_referee.specs.Instances.{PlainInstance}
use Rattle.cudf_cnf.specs.Cnf.{differing_clauses, instance_clauses, is_out, keyed_clauses, none_of}
use Rattle.cudf_index.specs.Promises.Counts.{count_pairs, differ}
use Rattle.cudf_cnf.proofs.ProblemLemmas.{none_at}

-- ---- clauses for each package that passes

pub none_counted : (literals : List Literal) (test : Placed → Bool) (all : List Placed) → length (none_of literals test all) ≡ count_by test all
none_counted literals test all = length-map (filter test all) (λ (q : Placed). literals ++ is_out q.0 ∷ []) ∙ length-filter test all

-- ---- those at other places

-- one element at most stands at a place
apart : {A : Type 0} (test : ℕ × A → Bool) (place n : ℕ) (xs : List A)
    → length (filter test (filter (λ q. not (q.0 == place)) (enumerate_from n xs))) + cond (list_any test (filter (λ q. q.0 == place) (enumerate_from n xs))) 1 0 ≡ length (filter test (enumerate_from n xs))
apart test place n [] = refl
apart test place n (x ∷ xs) = grind (arith, common_steps, nat_tests, apart test place (n + 1) xs, λ (h : place < n + 1). none_at (n + 1) place xs h)

pub others_counted : (b : Bool) (all : List Placed) (packages : List PlainPackage) (place : ℕ) (v : PlainVpkg) → all ≡ enumerate_from 1 packages → b ≡ satisfies (at place all) v
    → length (filter (meets_alone v) (without place all)) + cond b 1 0 ≡ count_by (meets_alone v) all
others_counted b all packages place v every is =
    ap (λ t. length (filter (meets_alone v) (without place all)) + cond t 1 0) (is ∙ member_alone (at place all) v)
    ∙ subst (λ (ps : List Placed). length (filter (meets_alone v) (without place ps)) + cond (list_any (meets_alone v) (at place ps)) 1 0 ≡ length (filter (meets_alone v) ps)) (sym every) (apart (meets_alone v) place 1 packages)
    ∙ length-filter (meets_alone v) all

-- ---- those of `many`

-- what is the same of all elements at later places
sum_later : {A : Type 0} (f g : ℕ × A → ℕ) (m n : ℕ) (xs : List A) → m < n → ((q : ℕ × A) → m < q.0 → f q ≡ g q) → sum_by f (enumerate_from n xs) ≡ sum_by g (enumerate_from n xs)
sum_later f g m n [] h same = refl
sum_later f g m n (x ∷ xs) h same =
    let rest = enumerate_from (n + 1) xs in
    sum_by-cons f (n, x) rest ∙ (λ i. same (n, x) h i + sum_later f g m (n + 1) xs (omega arith) same i) ∙ sym (sum_by-cons g (n, x) rest)

-- an element with itself, and with those at later places
abbrev pub once : {A : Type 0} → (ℕ × A → ℕ × A → Bool) → List (ℕ × A) → ℕ × A → ℕ
once d xs p = cond (d p p) 1 0 + count_by (λ q. nat_lt p.0 q.0 && d p q) xs

pairs_once : {A : Type 0} (d : ℕ × A → ℕ × A → Bool) (n : ℕ) (xs : List A) → sum_by (once d (enumerate_from n xs)) (enumerate_from n xs) ≡ count_pairs d (enumerate_from n xs)
pairs_once d n [] = refl
pairs_once {A} d n (x ∷ xs) =
    let p : ℕ × A = (n, x) in
    let rest = enumerate_from (n + 1) xs in
    let after = λ (q r : ℕ × A). cond (nat_lt q.0 r.0 && d q r) 1 0 in
    -- it isn't after itself, and all others are
    let first = sum_later (after p) (λ q. cond (d p q) 1 0) n (n + 1) xs (omega arith) (λ q later. grind (arith, nat_tests)) in
    -- and it is after none of them
    let others = sum_later (once d (p ∷ rest)) (once d rest) n (n + 1) xs (omega arith) (λ q later. let own = sum_by-cons (after q) p rest in grind (arith, common_steps, nat_tests)) in
    grind (arith, common_steps, nat_tests, first, others, pairs_once d (n + 1) xs, sum_by-cons (after p) p rest, sum_by-cons (λ q. cond (d p q) 1 0) p rest, sum_by-cons (once d (p ∷ rest)) p rest)

differing_length : (all : List Placed) (name : List ℕ) (p : Placed) → length (differing_clauses all name p) ≡ once (differ name) all p
differing_length all name p =
    let later = λ (q : Placed). nat_lt p.0 q.0 && differ name p q in
    length-append (cond (differ name p p) ((is_out p.0 ∷ []) ∷ []) []) (none_of (is_out p.0 ∷ []) later all) ∙ grind (arith, common_steps, none_counted (is_out p.0 ∷ []) later all)

pub many_counted : (all : List Placed) (packages : List PlainPackage) (name : List ℕ) → all ≡ enumerate_from 1 packages → length (flat_map (differing_clauses all name) all) ≡ count_pairs (differ name) all
many_counted all packages name every =
    length-flat_map (differing_clauses all name) all
    ∙ (λ i. sum_by (λ p. differing_length all name p i) all)
    ∙ subst (λ (ps : List Placed). sum_by (once (differ name) ps) ps ≡ count_pairs (differ name) ps) (sym every) (pairs_once (differ name) 1 packages)

-- ---- all of them

-- of an instance, and of those that are left
pub counted_next : (problem : PlainProblem) (i : PlainInstance) (is rest : List PlainInstance) → is ≡ i ∷ rest
    → length (flat_map (keyed_clauses problem) is) ≡ length (instance_clauses problem i) + length (flat_map (keyed_clauses problem) rest)
counted_next problem i is rest steps =
    ap (λ (js : List PlainInstance). length (flat_map (keyed_clauses problem) js)) steps
    ∙ length-append (keyed_clauses problem i) (flat_map (keyed_clauses problem) rest)
    ∙ ap (λ n. n + length (flat_map (keyed_clauses problem) rest)) (length-map (instance_clauses problem i) (λ (clause : List Literal). (i.key, clause)))
