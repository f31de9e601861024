-- The packages of a problem by their places, and its instances by their keys.
use Rattle.std.proofs.Common.{◌≡◌, ℕ, zero, suc, ◌+◌, ◌-◌, ◌<◌, ◌^◌, ◌==◌, Bool, true, false, cond, List, [], ◌∷◌, length, get_or, map, filter, refl, sym, subst, ap, ◌∙◌, arith, eq-eqb, if◌then◌else◌}
use Rattle.std.specs.List.{enumerate_from}
use Rattle.std.proofs.lemmas.Bool.Decides.{nat_tests}
use Rattle.cudf_problem.specs.Universe.{PlainPackage}
use Rattle.cudf_problem.specs.Working.Flags.{flag_at}
use Rattle.cudf_index.specs.Promises.Places.{at}
use Rattle.cudf_index.specs.Satisfaction.{Placed, members}
use Rattle.cudf_cnf.specs.Working.Parts.{Fits, IsAt}

-- ---- the package at an index

pub none_at : {A : Type 0} (n m : ℕ) (xs : List A) → m < n → filter (λ q. q.0 == m) (enumerate_from n xs) ≡ []
none_at n m [] h = refl
none_at n m (x ∷ xs) h =
    let other : (n == m) ≡ false = grind (arith, nat_tests) in
    ap (λ b. cond b ((n, x) ∷ filter (λ q. q.0 == m) (enumerate_from (n + 1) xs)) (filter (λ q. q.0 == m) (enumerate_from (n + 1) xs))) other ∙ none_at (n + 1) m xs (omega arith)

one_at : {A : Type 0} (n : ℕ) (xs : List A) (i : ℕ) (d : A) → i < length xs → filter (λ q. q.0 == n + i) (enumerate_from n xs) ≡ (n + i, get_or xs i d) ∷ []
one_at n [] i d h = absurd (omega arith)
one_at n (x ∷ xs) zero d h =
    let same : n ≡ n + 0 = omega arith in
    (λ i. cond (eq-eqb n (n + 0) same i) ((same i, x) ∷ none_at (n + 1) (n + 0) xs (omega arith) i) (filter (λ q. q.0 == n + 0) (enumerate_from (n + 1) xs)))
one_at n (x ∷ xs) (suc i) d h =
    let same : n + 1 + i ≡ n + suc i = omega arith in
    let other : (n == n + suc i) ≡ false = grind (arith, nat_tests) in
    ap (λ b. cond b ((n, x) ∷ filter (λ q. q.0 == n + suc i) (enumerate_from (n + 1) xs)) (filter (λ q. q.0 == n + suc i) (enumerate_from (n + 1) xs))) other
    ∙ subst (λ m. filter (λ q. q.0 == m) (enumerate_from (n + 1) xs) ≡ (m, get_or xs i d) ∷ []) same (one_at (n + 1) xs i d (omega arith))

pub package_at_index : (packages : List PlainPackage) (i : ℕ) (d : PlainPackage) → i < length packages → IsAt (enumerate_from 1 packages) (i + 1, get_or packages i d)
package_at_index packages i d inside =
    let same : 1 + i ≡ i + 1 = omega arith in
    subst (λ m. at m (enumerate_from 1 packages) ≡ (m, get_or packages i d) ∷ []) same (one_at 1 packages i d inside)

pub places-length : {A : Type 0} (n : ℕ) (xs : List A) → length (map (λ q. q.0) (enumerate_from n xs)) ≡ length xs
places-length n [] = refl
places-length n (x ∷ xs) = ap suc (places-length (n + 1) xs)

pub place-at : {A : Type 0} (n : ℕ) (xs : List A) (i d : ℕ) → i < length xs → get_or (map (λ q. q.0) (enumerate_from n xs)) i d ≡ n + i
place-at n [] i d h = absurd (omega arith)
place-at n (x ∷ xs) zero d h = omega arith
place-at n (x ∷ xs) (suc i) d h = place-at (n + 1) xs i d (omega arith) ∙ omega arith

-- ---- all packages

pub all_pass : {A : Type 0} (test : ℕ → Bool) (n : ℕ) (xs : List A) → ((i : ℕ) → i < length xs → test (n + i) ≡ true) → filter (λ q. test q.0) (enumerate_from n xs) ≡ enumerate_from n xs
all_pass test n [] h = refl
all_pass {A} test n (x ∷ xs) h =
    let first : test n ≡ true = let same : n + 0 ≡ n = omega arith in subst (λ (m : ℕ). test m ≡ true) same (h 0 (omega arith)) in
    let rest = all_pass test (n + 1) xs (λ i inside. let same : n + suc i ≡ n + 1 + i = omega arith in subst (λ (m : ℕ). test m ≡ true) same (h (suc i) (omega arith))) in
    (λ i. cond (first i) ((n, x) ∷ rest i) (rest i))

-- a status of which each flag is set
pub every_member : (holds : ℕ → Bool) (flags : List Bool) (packages : List PlainPackage) → ((place : ℕ) → holds place ≡ flag_at flags place) → ((k : ℕ) → k < length packages → get_or flags k false ≡ true) → members holds packages ≡ enumerate_from 1 packages
every_member holds flags packages read set =
    all_pass holds 1 packages (λ i inside.
    let other : (1 + i == 0) ≡ false = grind (arith, nat_tests) in
    let index : 1 + i - 1 ≡ i = omega arith in
    read (1 + i) ∙ ap (λ b. if b then false else get_or flags (1 + i - 1) false) other ∙ ap (λ (m : ℕ). get_or flags m false) index ∙ set i inside)

-- those of a problem's packages
pub problem_fits : (places : ℕ) (packages : List PlainPackage) (all : List Placed) → all ≡ enumerate_from 1 packages → length packages < 2 ^ 32 → places ≡ length packages → Fits places all
problem_fits places packages all is few room = subst (Fits places) (sym is) numbers
  where
    numbers : Fits places (enumerate_from 1 packages)
    numbers k d inside =
        let long = places-length 1 packages in
        let below : k < length packages = omega arith in
        let value = place-at 1 packages k d below in
        record { from_one = omega (arith, value); within = omega (arith, value); small = omega (arith, value) }
