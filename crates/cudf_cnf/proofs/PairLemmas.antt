-- Pairs of packages that differ: each pair once, and each package with itself, is as good as all of them.
use Rattle.std.proofs.Common.{◌≡◌, ℕ, ◌+◌, ◌<◌, ◌==◌, Bool, true, false, not, ◌&&◌, ◌||◌, nat_lt, List, [], ◌∷◌, ◌++◌, map, filter, cond, refl, sym, ap, ◌∙◌, arith, bytes_eq}
use Rattle.std.specs.List.{list_all, list_any, flat_map, enumerate_from}
use Rattle.std.proofs.Math.Bool.{or_assoc}
use Rattle.std.proofs.lemmas.Grind.{common_steps}
use Rattle.std.proofs.lemmas.List.{map-append}
use Rattle.std.proofs.lemmas.List.Elements.{filter-append}
use Rattle.std.proofs.lemmas.List.Concat.{flat_map-append}
use Rattle.std.proofs.lemmas.Bool.Decides.{nat_tests}
use Rattle.cudf_problem.specs.Ids.{Id}
use Rattle.cudf_problem.specs.Universe.{PlainPackage}
use Rattle.cudf_index.specs.Promises.Counts.{differ}
use Rattle.cudf_index.specs.Satisfaction.{Placed, gives, numbers_of, package_pairs}
use Rattle.cudf_referee.specs.Violations.{are_lower, are_many}
use Rattle.cudf_cnf.proofs.TestLemmas.{list_any-flat, list_any-or, list_any-same, list_any-swap, list_any-where}

-- ---- each pair once

-- some pair of two elements, in either order, or one with itself
abbrev pub any_pair : {A : Type 0} → (A → A → Bool) → List A → Bool
any_pair d xs = list_any (λ p. list_any (d p) xs) xs

-- some element with itself, or with one at a later place
abbrev any_once : {A : Type 0} → (ℕ × A → ℕ × A → Bool) → List (ℕ × A) → Bool
any_once d xs = list_any (λ p. d p p || list_any (λ q. nat_lt p.0 q.0 && d p q) xs) xs

-- all places are above the number
abbrev are_above : {A : Type 0} → ℕ → List (ℕ × A) → Bool
are_above n xs = list_all (λ p. nat_lt n p.0) xs

pair_first : {A : Type 0} (d : A → A → Bool) → ((p q : A) → d p q ≡ d q p) → (x : A) (xs : List A) → any_pair d (x ∷ xs) ≡ (d x x || (list_any (d x) xs || any_pair d xs))
pair_first d both x xs =
    ap (λ b. (d x x || list_any (d x) xs) || b) (list_any-or (λ p. d p x) (λ p. list_any (d p) xs) xs ∙ ap (λ b. b || any_pair d xs) (list_any-same (λ p. d p x) (d x) (λ p. both p x) xs))
    ∙ by (d x x) (list_any (d x) xs) (any_pair d xs)
  where
    by : (a b c : Bool) → ((a || b) || (b || c)) ≡ (a || (b || c))
    by a b c = grind arith

once_first : {A : Type 0} (d : ℕ × A → ℕ × A → Bool) (x : ℕ × A) (xs : List (ℕ × A)) → are_above x.0 xs ≡ true → any_once d (x ∷ xs) ≡ (d x x || (list_any (d x) xs || any_once d xs))
once_first {A} d x xs h =
    let later = λ (p q : ℕ × A). nat_lt p.0 q.0 && d p q in
    let above = λ (p : ℕ × A). nat_lt x.0 p.0 in
    (λ i. (d x x || (itself i || list_any-where above (later x) (d x) (λ q k j. k j && d x q) xs h i))
    || list_any-where above (λ p. d p p || (later p x || list_any (later p) xs)) (λ p. d p p || list_any (later p) xs) (λ p k j. d p p || (behind p k j || list_any (later p) xs)) xs h i)
    ∙ or_assoc (d x x) (list_any (d x) xs) (any_once d xs)
  where
    itself : (nat_lt x.0 x.0 && d x x) ≡ false
    itself = grind (arith, nat_tests)

    behind : (p : ℕ × A) → nat_lt x.0 p.0 ≡ true → (nat_lt p.0 x.0 && d p x) ≡ false
    behind p k = grind (arith, nat_tests)

places_above : {A : Type 0} (t : ℕ × A → Bool) (m n : ℕ) (xs : List A) → m < n → are_above m (filter t (enumerate_from n xs)) ≡ true
places_above t m n [] h = refl
places_above t m n (x ∷ xs) h = grind (arith, common_steps, nat_tests, places_above t m (n + 1) xs (omega arith))

once-pair : {A : Type 0} (d : ℕ × A → ℕ × A → Bool) → ((p q : ℕ × A) → d p q ≡ d q p) → (t : ℕ × A → Bool) (n : ℕ) (xs : List A)
    → any_once d (filter t (enumerate_from n xs)) ≡ any_pair d (filter t (enumerate_from n xs))
once-pair d both t n [] = refl
once-pair {A} d both t n (x ∷ xs) = by (t (n, x)) (once-pair d both t (n + 1) xs)
  where
    rest : List (ℕ × A)
    rest = filter t (enumerate_from (n + 1) xs)

    by : (b : Bool) → any_once d rest ≡ any_pair d rest → any_once d (cond b ((n, x) ∷ rest) rest) ≡ any_pair d (cond b ((n, x) ∷ rest) rest)
    by true same =
        once_first d (n, x) rest (places_above t n (n + 1) xs (omega arith))
        ∙ ap (λ b. d (n, x) (n, x) || (list_any (d (n, x)) rest || b)) same
        ∙ sym (pair_first d both (n, x) rest)
    by false same = same

-- ---- numbers of packages

numbers-append : (name : List ℕ) (xs ys : List Placed) → numbers_of name (xs ++ ys) ≡ numbers_of name xs ++ numbers_of name ys
numbers-append name xs ys =
    let wanted = λ (pair : Id). bytes_eq pair.0 name in
    ap (λ pairs. map (λ (pair : Id). pair.1) (filter wanted pairs)) (flat_map-append (λ (p : Placed). package_pairs p.1) xs ys)
    ∙ ap (map (λ (pair : Id). pair.1)) (filter-append wanted (gives xs) (gives ys))
    ∙ map-append (λ (pair : Id). pair.1) (filter wanted (gives xs)) (filter wanted (gives ys))

-- the numbers that a status gives are those that its packages give
numbers_alone : (name : List ℕ) (status : List Placed) → numbers_of name status ≡ flat_map (λ p. numbers_of name (p ∷ [])) status
numbers_alone name [] = refl
numbers_alone name (p ∷ ps) = numbers-append name (p ∷ []) ps ∙ ap (λ ns. numbers_of name (p ∷ []) ++ ns) (numbers_alone name ps)

-- a number that passes is one of a package
pub number_any : (test : ℕ → Bool) (name : List ℕ) (status : List Placed) → list_any test (numbers_of name status) ≡ list_any (λ p. list_any test (numbers_of name (p ∷ []))) status
number_any test name status = ap (list_any test) (numbers_alone name status) ∙ list_any-flat test (λ p. numbers_of name (p ∷ [])) status

pub many-pair : (name : List ℕ) (status : List Placed) → are_many (numbers_of name status) ≡ any_pair (differ name) status
many-pair name status =
    let own = λ (p : Placed). numbers_of name (p ∷ []) in
    number_any (λ m. list_any (λ n. not (m == n)) (numbers_of name status)) name status
    ∙ list_any-same (λ p. list_any (λ m. list_any (λ n. not (m == n)) (numbers_of name status)) (own p)) (λ p. list_any (differ name p) status)
    (λ p. list_any-same (λ m. list_any (λ n. not (m == n)) (numbers_of name status)) (λ m. list_any (λ q. list_any (λ n. not (m == n)) (own q)) status) (λ m. number_any (λ n. not (m == n)) name status) (own p)
    ∙ list_any-swap (λ m q. list_any (λ n. not (m == n)) (own q)) (own p) status) status

differ-swap : (name : List ℕ) (p q : Placed) → differ name p q ≡ differ name q p
differ-swap name p q =
    list_any-swap (λ m n. not (m == n)) (numbers_of name (p ∷ [])) (numbers_of name (q ∷ []))
    ∙ list_any-same (λ n. list_any (λ m. not (m == n)) (numbers_of name (p ∷ []))) (λ n. list_any (λ m. not (n == m)) (numbers_of name (p ∷ [])))
    (λ n. list_any-same (λ m. not (m == n)) (λ m. not (n == m)) (λ m. ap not (equal m n)) (numbers_of name (p ∷ []))) (numbers_of name (q ∷ []))
  where
    equal : (m n : ℕ) → (m == n) ≡ (n == m)
    equal m n = grind (arith, nat_tests)

-- a status gives several numbers of a name where two of its packages do, or one
pub many-once : (name : List ℕ) (is : ℕ → Bool) (packages : List PlainPackage)
    → let status = filter (λ (p : Placed). is p.0) (enumerate_from 1 packages) in
    list_any (λ p. differ name p p || list_any (λ q. nat_lt p.0 q.0 && differ name p q) status) status ≡ are_many (numbers_of name status)
many-once name is packages = let own = λ (p : Placed). is p.0 in once-pair (differ name) (differ-swap name) own 1 packages ∙ sym (many-pair name (filter own (enumerate_from 1 packages)))

-- one of the status's numbers is lower where one of a package is
pub lower_any : (before : List ℕ) (name : List ℕ) (status : List Placed) → are_lower before (numbers_of name status) ≡ list_any (λ p. are_lower before (numbers_of name (p ∷ []))) status
lower_any before name status = number_any (λ n. list_any (λ m. nat_lt n m) before) name status
