-- What the definitions and outputs of a count say.
use Rattle.std.proofs.Common.{◌≡◌, ◌⊎◌, inl, inr, ⊎_elim, ℕ, zero, suc, ◌+◌, ◌-◌, ◌*◌, ◌/◌, ◌^◌, min, ◌<◌, ◌≤◌, ◌==◌, Bool, true, false, not, ◌&&◌, ◌||◌, cond, List, [], ◌∷◌, ◌++◌, length, map, take, drop, refl, sym, subst, ap, ◌∙◌, arith, if◌then◌else◌, eq-eqb}
use Rattle.std.specs.Prelude.{All, IsTrue, Option, Some, None, option_map, slice_get, nat_lt, nat_le}
use Rattle.std.specs.Option.{option_map_or}
use Rattle.std.proofs.lemmas.Grind.{common_steps}
use Rattle.std.proofs.lemmas.Bool.Decides.{nat_tests}
use Rattle.std.specs.List.{list_any, list_all, count_by, flat_map, range_with_len}
use Rattle.std.proofs.lemmas.List.{length-append}
use Rattle.std.proofs.lemmas.List.Elements.{All-append, All-cons, All-head, All-nil, All-tail}
use Rattle.std.proofs.lemmas.List.Folds.{list_all-append, list_any-append}
use Rattle.std.proofs.lemmas.List.Sums.{sum_by-cons, sum_by-take-drop}
use Rattle.cudf_lrat.specs.declared.cnf.Literal.{Literal}
use Rattle.cudf_lrat.specs.Literals.{Assignment, SatisfiesAll, is_satisfied_by, is_true_in}
use Rattle.cudf_lrat.specs.Steps.{negated}
use Rattle.cudf_cnf.specs.Cnf.{is_in, is_out}
use Rattle.cudf_better.specs.Cardinality.{AtMost, Dnf, Network, clauses_from, compared, added, at_least, both_of, counter, evens, lexicographic_clauses, defining_clauses, joined, merged, output_count, sorted, strict_of, sum_definition}
use Rattle.cudf_better.specs.Laws.{AreBelow, LessSatisfies, are_less, count, holds}

-- ---- what outputs say

-- the outputs from the index `s` on, `d` apart: the one of an index is true only where the index is below the number
abbrev pub Under : Assignment → ℕ → ℕ → List ℕ → ℕ → Type 0
Under t s d [] p = Unit {0}
Under t s d (x ∷ xs) p = (t x ≡ true → s < p) × Under t (s + d) d xs p

under_more : (t : Assignment) (s d : ℕ) (xs : List ℕ) (p q : ℕ) → p ≤ q → Under t s d xs p → Under t s d xs q
under_more t s d [] p q le h = tt
under_more t s d (x ∷ xs) p q le h = ((λ e. let low = h.0 e in omega arith), under_more t (s + d) d xs p q le h.1)

-- at earlier indices
under_back : (t : Assignment) (s d : ℕ) (xs : List ℕ) (p r : ℕ) → r ≤ s → Under t s d xs p → Under t r d xs p
under_back t s d [] p r le h = tt
under_back t s d (x ∷ xs) p r le h = ((λ e. let low = h.0 e in omega arith), under_back t (s + d) d xs p (r + d) (omega arith) h.1)

under_at : (t : Assignment) (s r d : ℕ) (xs : List ℕ) (p : ℕ) → s ≡ r → Under t s d xs p → Under t r d xs p
under_at t s r d xs p e h = subst (λ n. Under t n d xs p) e h

under_take : (t : Assignment) (s d n : ℕ) (xs : List ℕ) (p : ℕ) → Under t s d xs p → Under t s d (take n xs) p
under_take t s d zero xs p h = tt
under_take t s d (suc n) [] p h = tt
under_take t s d (suc n) (x ∷ xs) p h = (h.0, under_take t (s + d) d n xs p h.1)

under_drop : (t : Assignment) (s n : ℕ) (xs : List ℕ) (p : ℕ) → Under t s 1 xs p → Under t (s + n) 1 (drop n xs) p
under_drop t s zero xs p h = under_at t s (s + 0) 1 xs p (omega arith) h
under_drop t s (suc n) [] p h = tt
under_drop t s (suc n) (x ∷ xs) p h = under_at t (s + 1 + n) (s + suc n) 1 (drop n xs) p (omega arith) (under_drop t (s + 1) n xs p h.1)

under_evens : (t : Assignment) (s : ℕ) (xs : List ℕ) (p : ℕ) → Under t s 1 xs p → Under t s 2 (evens xs) p
unfolding evens
under_evens t s [] p h = tt
under_evens t s (x ∷ []) p h = (h.0, tt)
under_evens t s (x ∷ y ∷ xs) p h = (h.0, under_evens t (s + 2) xs p (under_at t (s + 1 + 1) (s + 2) 1 xs p (omega arith) h.1.1))

under_get : (t : Assignment) (s n : ℕ) (xs : List ℕ) (p : ℕ) → Under t s 1 xs p → (x : ℕ) → slice_get xs n ≡ Some x → t x ≡ true → s + n < p
under_get t s n [] p h x at is = cc
under_get t s zero (y ∷ xs) p h x at is = let same : y ≡ x = cc in let low = h.0 (ap t same ∙ is) in omega arith
under_get t s (suc n) (y ∷ xs) p h x at is = let low = under_get t (s + 1) n xs p h.1 x at is in omega arith

-- every second index, from 0 and from 1
under_half : (t : Assignment) (s : ℕ) (xs : List ℕ) (p h : ℕ) → p ≤ 2 * h → Under t (2 * s) 2 xs p → Under t s 1 xs h
under_half t s [] p h le u = tt
under_half t s (x ∷ xs) p h le u = ((λ e. let low = u.0 e in omega arith), under_half t (s + 1) xs p h le (under_at t (2 * s + 2) (2 * (s + 1)) 2 xs p (omega arith) u.1))

under_other : (t : Assignment) (s : ℕ) (xs : List ℕ) (p h : ℕ) → p ≤ 2 * h + 1 → Under t (2 * s + 1) 2 xs p → Under t s 1 xs h
under_other t s [] p h le u = tt
under_other t s (x ∷ xs) p h le u = ((λ e. let low = u.0 e in omega arith), under_other t (s + 1) xs p h le (under_at t (2 * s + 1 + 2) (2 * (s + 1) + 1) 2 xs p (omega arith) u.1))

-- ---- definitions

-- each variable from the first on is true exactly where its definition holds
abbrev pub Evaluates : Assignment → ℕ → List Dnf → Type 0
Evaluates t next [] = Unit {0}
Evaluates t next (g ∷ definitions) = (t next ≡ holds t g) × Evaluates t (next + 1) definitions

abbrev evaluates_at : (t : Assignment) (n m : ℕ) (definitions : List Dnf) → n ≡ m → Evaluates t n definitions → Evaluates t m definitions
evaluates_at t n m definitions e h = subst (λ k. Evaluates t k definitions) e h

pub evaluates_left : (t : Assignment) (next : ℕ) (xs ys : List Dnf) → Evaluates t next (xs ++ ys) → Evaluates t next xs
evaluates_left t next [] ys h = tt
evaluates_left t next (x ∷ xs) ys h = (h.0, evaluates_left t (next + 1) xs ys h.1)

pub evaluates_right : (t : Assignment) (next : ℕ) (xs ys : List Dnf) → Evaluates t next (xs ++ ys) → Evaluates t (next + length xs) ys
evaluates_right t next [] ys h = evaluates_at t next (next + 0) ys (omega arith) h
evaluates_right t next (x ∷ xs) ys h = evaluates_at t (next + 1 + length xs) (next + suc (length xs)) ys (omega arith) (evaluates_right t (next + 1) xs ys h.1)

evaluates_three : (t : Assignment) (next : ℕ) (xs ys zs : List Dnf) → Evaluates t next (xs ++ ys ++ zs)
    → Evaluates t next xs × Evaluates t (next + length xs) ys × Evaluates t (next + length xs + length ys) zs
evaluates_three t next xs ys zs h =
    let front = evaluates_left t next (xs ++ ys) zs h in
    (evaluates_left t next xs ys front, evaluates_right t next xs ys front, evaluates_at t (next + length (xs ++ ys)) (next + length xs + length ys) zs (omega (arith, length-append xs ys)) (evaluates_right t next (xs ++ ys) zs h))

-- ---- networks

either : (a b : Bool) → ((a && true) || ((b && true) || false)) ≡ true → (a ≡ true) ⊎ (b ≡ true)
either true b h = inl refl
either false true h = inr refl
either false false h = cc

both : (a b : Bool) → ((a && (b && true)) || false) ≡ true → (a ≡ true) × (b ≡ true)
both true true h = (refl, refl)
both true false h = cc
both false b h = cc

-- beside each other: an index from the odd ones, and the next one from the even ones
under_compared : (t : Assignment) (next i : ℕ) (xs ys : List ℕ) (r l n : ℕ) → r + l ≡ n → 2 * r ≤ n → 2 * l ≤ n + 2
    → Evaluates t next (compared next xs ys).definitions → Under t i 1 xs r → Under t (i + 1) 1 ys l → Under t (2 * i + 1) 1 (compared next xs ys).outputs n
unfolding compared
under_compared t next i [] ys r l n sum low high e u v = right ys (i + 1) (2 * i + 1) (omega arith) v
  where
    right : (ys : List ℕ) (j k : ℕ) → k + 1 ≤ 2 * j → Under t j 1 ys l → Under t k 1 ys n
    right [] j k le v = tt
    right (y ∷ ys) j k le v = ((λ is. let near = v.0 is in omega arith), right ys (j + 1) (k + 1) (omega arith) v.1)
under_compared t next i (x ∷ xs) [] r l n sum low high e u v = left (x ∷ xs) i (2 * i + 1) (omega arith) u
  where
    left : (xs : List ℕ) (j k : ℕ) → k ≤ 2 * j + 1 → Under t j 1 xs r → Under t k 1 xs n
    left [] j k le v = tt
    left (x ∷ xs) j k le v = ((λ is. let near = v.0 is in omega arith), left xs (j + 1) (k + 1) (omega arith) v.1)
under_compared t next i (x ∷ xs) (y ∷ ys) r l n sum low high e u v = (
  λ is. ⊎_elim (λ here. let a = u.0 here in omega arith) (λ here. let b = v.0 here in omega arith) (either (t x) (t y) (sym e.0 ∙ is)),
  (
    λ is. let here = both (t x) (t y) (sym e.1.0 ∙ is) in let a = u.0 here.0 in let b = v.0 here.1 in omega arith,
    under_at t (2 * (i + 1) + 1) (2 * i + 1 + 1 + 1) 1 (compared (next + 2) xs ys).outputs n (omega arith)
        (under_compared t (next + 2) (i + 1) xs ys r l n sum low high (evaluates_at t (next + 1 + 1) (next + 2) (compared (next + 2) xs ys).definitions (omega arith) e.1.1) u.1 v.1),
  ),
)

-- the first of some outputs, and others behind it
first_before : (t : Assignment) (xs ys : List ℕ) (l n : ℕ) → (0 < l → 0 < n) → Under t 0 1 xs l → Under t 1 1 ys n → Under t 0 1 (take 1 xs ++ ys) n
first_before t [] ys l n some u v = under_back t 1 1 ys n 0 (omega arith) v
first_before t (x ∷ xs) ys l n some u v = ((λ is. some (u.0 is)), v)

drop_one : (t : Assignment) (xs : List ℕ) (p : ℕ) → Under t 0 1 xs p → Under t 1 1 (drop 1 xs) p
drop_one t [] p u = tt
drop_one t (x ∷ xs) p u = u.1

-- ---- direct sums

any_flat : {A B : Type 0} (test : B → Bool) (f : A → List B) (xs : List A) → list_any test (flat_map f xs) ≡ list_any (λ x. list_any test (f x)) xs
any_flat test f [] = refl
any_flat test f (x ∷ xs) = list_any-append test (f x) (flat_map f xs) ∙ ap (λ b. list_any test (f x) || b) (any_flat test f xs)

all_append : (t : Assignment) (xs ys : List Literal) → list_all (is_true_in t) (xs ++ ys) ≡ (list_all (is_true_in t) xs && list_all (is_true_in t) ys)
all_append t xs ys = list_all-append (is_true_in t) xs ys

-- both definitions hold
both_holds : (t : Assignment) (g h : Dnf) → holds t (both_of g h) ≡ (holds t g && holds t h)
both_holds t g h = any_flat (list_all (is_true_in t)) (λ term. map (λ more. term ++ more) h) g ∙ by g
  where
    one_of : (term : List Literal) (h : Dnf) → list_any (list_all (is_true_in t)) (map (λ more. term ++ more) h) ≡ (list_all (is_true_in t) term && holds t h)
    one_of term [] = never (list_all (is_true_in t) term)
      where
        never : (a : Bool) → false ≡ (a && false)
        never true = refl
        never false = refl
    one_of term (more ∷ h) = (λ i. all_append t term more i || one_of term h i) ∙ part (list_all (is_true_in t) term) (list_all (is_true_in t) more) (holds t h)
      where
        part : (a b c : Bool) → ((a && b) || (a && c)) ≡ (a && (b || c))
        part true b c = refl
        part false b c = refl

    by : (g : Dnf) → list_any (λ term. list_any (list_all (is_true_in t)) (map (λ more. term ++ more) h)) g ≡ (holds t g && holds t h)
    by [] = refl
    by (term ∷ g) = (λ i. one_of term h i || by g i) ∙ part (list_all (is_true_in t) term) (holds t g) (holds t h)
      where
        part : (a b c : Bool) → ((a && c) || (b && c)) ≡ ((a || b) && c)
        part true true true = refl
        part true true false = refl
        part true false true = refl
        part true false false = refl
        part false b c = refl

at_least_under : (t : Assignment) (i : ℕ) (xs : List ℕ) (p : ℕ) → Under t 0 1 xs p → holds t (at_least i xs) ≡ true → i ≤ p
at_least_under t zero xs p u h = omega arith
at_least_under t (suc n) xs p u h = first (drop n xs) (under_drop t 0 n xs p u) h
  where
    first : (ys : List ℕ) → Under t (0 + n) 1 ys p → holds t (map (λ variable. is_in variable ∷ []) (take 1 ys)) ≡ true → suc n ≤ p
    first [] v h = cc
    first (y ∷ ys) v h = let low = v.0 (truth (t y) h) in omega arith
      where
        truth : (b : Bool) → ((b && true) || false) ≡ true → b ≡ true
        truth true h = refl
        truth false h = h

sum_under : (t : Assignment) (xs ys : List ℕ) (p q n : ℕ) → Under t 0 1 xs p → Under t 0 1 ys q → holds t (sum_definition xs ys n) ≡ true → n ≤ p + q
sum_under t xs ys p q n u v h = search_all (range_with_len 0 (n + 1)) (sym (any_flat (list_all (is_true_in t)) (λ i. both_of (at_least i xs) (at_least (n - i) ys)) (range_with_len 0 (n + 1))) ∙ h)
  where
    at : (i : ℕ) → holds t (both_of (at_least i xs) (at_least (n - i) ys)) ≡ true → n ≤ p + q
    at i h =
        let parts = split (holds t (at_least i xs)) (holds t (at_least (n - i) ys)) (sym (both_holds t (at_least i xs) (at_least (n - i) ys)) ∙ h) in
        let a = at_least_under t i xs p u parts.0 in
        let b = at_least_under t (n - i) ys q v parts.1 in
        omega arith
      where
        split : (a b : Bool) → (a && b) ≡ true → (a ≡ true) × (b ≡ true)
        split true true h = (refl, refl)
        split true false h = cc
        split false b h = cc

    search_all : (is : List ℕ) → list_any (λ i. holds t (both_of (at_least i xs) (at_least (n - i) ys))) is ≡ true → n ≤ p + q
    search_all [] h = cc
    search_all (i ∷ is) h = by (holds t (both_of (at_least i xs) (at_least (n - i) ys))) refl h (search_all is)
      where
        by : (b : Bool) → holds t (both_of (at_least i xs) (at_least (n - i) ys)) ≡ b → (b || list_any (λ i. holds t (both_of (at_least i xs) (at_least (n - i) ys))) is) ≡ true
            → (list_any (λ i. holds t (both_of (at_least i xs) (at_least (n - i) ys))) is ≡ true → n ≤ p + q) → n ≤ p + q
        by true e h more = at i e
        by false e h more = more h

under_sums : (t : Assignment) (xs ys : List ℕ) (p q : ℕ) → Under t 0 1 xs p → Under t 0 1 ys q → (m next s : ℕ)
    → Evaluates t next (map (sum_definition xs ys) (range_with_len (s + 1) m)) → Under t s 1 (range_with_len next m) (p + q)
under_sums t xs ys p q u v zero next s e = tt
under_sums t xs ys p q u v (suc m) next s e = (
  λ is. let low = sum_under t xs ys p q (s + 1) u v (sym e.0 ∙ is) in omega arith,
  under_sums t xs ys p q u v m (next + 1) (s + 1) e.1,
)

under_added : (t : Assignment) (most next : ℕ) (xs ys : List ℕ) (p q : ℕ)
    → Evaluates t next (added most next xs ys).definitions → Under t 0 1 xs p → Under t 0 1 ys q → Under t 0 1 (added most next xs ys).outputs (p + q)
unfolding added
under_added t most next xs ys p q e u v = under_sums t xs ys p q u v (min most (length xs + length ys)) next 0 e

under_joined : (t : Assignment) (next : ℕ) (even odd : Network) (p q : ℕ) → Evaluates t next (joined next even odd).definitions
    → (Evaluates t next even.definitions → Under t 0 1 even.outputs ((p + 1) / 2 + (q + 1) / 2)) → (Evaluates t (next + length even.definitions) odd.definitions → Under t 0 1 odd.outputs (p / 2 + q / 2))
    → Under t 0 1 (joined next even odd).outputs (p + q)
under_joined t next even odd p q e firsts seconds =
    let last = compared (next + length even.definitions + length odd.definitions) odd.outputs (drop 1 even.outputs) in
    let parts = evaluates_three t next even.definitions odd.definitions last.definitions e in
    let first = firsts parts.0 in
    first_before t even.outputs last.outputs ((p + 1) / 2 + (q + 1) / 2) (p + q) (λ some. omega arith) first
    (under_compared t (next + length even.definitions + length odd.definitions) 0 odd.outputs (drop 1 even.outputs) (p / 2 + q / 2) ((p + 1) / 2 + (q + 1) / 2) (p + q) (omega arith) (omega arith) (omega arith) parts.2 (seconds parts.1)
    (drop_one t even.outputs ((p + 1) / 2 + (q + 1) / 2) first))

-- merged outputs say as much as both lists together
under_merged : (t : Assignment) (most depth next : ℕ) (xs ys : List ℕ) (p q : ℕ)
    → Evaluates t next (merged most depth next xs ys).definitions → Under t 0 1 xs p → Under t 0 1 ys q → Under t 0 1 (merged most depth next xs ys).outputs (p + q)
unfolding merged
under_merged t most depth next [] ys p q e u v = under_more t 0 1 ys q (p + q) (omega arith) v
under_merged t most depth next (x ∷ xs) [] p q e u v = under_more t 0 1 (x ∷ xs) p (p + q) (omega arith) u
under_merged t most zero next (x ∷ xs) (y ∷ ys) p q e u v = under_added t most next (x ∷ xs) (y ∷ ys) p q e u v
under_merged t most (suc depth) next (x ∷ xs) (y ∷ ys) p q e u v =
    let even = merged most depth next (evens (x ∷ xs)) (evens (y ∷ ys)) in
    let n1 = next + length even.definitions in
    let odd = merged most depth n1 (evens xs) (evens ys) in
    by even odd (nat_le (length xs) 31 && nat_le (length ys) 31) e
    (λ e. under_merged t most depth next (evens (x ∷ xs)) (evens (y ∷ ys)) ((p + 1) / 2) ((q + 1) / 2) e
    (under_half t 0 (evens (x ∷ xs)) p ((p + 1) / 2) (omega arith) (under_evens t 0 (x ∷ xs) p u))
    (under_half t 0 (evens (y ∷ ys)) q ((q + 1) / 2) (omega arith) (under_evens t 0 (y ∷ ys) q v)))
    (λ e. under_merged t most depth n1 (evens xs) (evens ys) (p / 2) (q / 2) e
    (under_other t 0 (evens xs) p (p / 2) (omega arith) (under_evens t 1 xs p u.1))
    (under_other t 0 (evens ys) q (q / 2) (omega arith) (under_evens t 1 ys q v.1)))
  where
    by : (even odd : Network) (b : Bool) → Evaluates t next (cond b (added most next (x ∷ xs) (y ∷ ys)) (joined next even odd)).definitions
        → (Evaluates t next even.definitions → Under t 0 1 even.outputs ((p + 1) / 2 + (q + 1) / 2)) → (Evaluates t (next + length even.definitions) odd.definitions → Under t 0 1 odd.outputs (p / 2 + q / 2))
        → Under t 0 1 (cond b (added most next (x ∷ xs) (y ∷ ys)) (joined next even odd)).outputs (p + q)
    by even odd true e firsts seconds = under_added t most next (x ∷ xs) (y ∷ ys) p q e u v
    by even odd false e firsts seconds = under_joined t next even odd p q e firsts seconds

count_cons : (t : Assignment) (g : Dnf) (definitions : List Dnf) → count_by (holds t) (g ∷ definitions) ≡ cond (holds t g) 1 0 + count_by (holds t) definitions
count_cons t g definitions = sum_by-cons (λ g. cond (holds t g) 1 0) g definitions

-- sorted outputs say at most how many formulas hold
pub under_sorted : (t : Assignment) (most depth next : ℕ) (definitions : List Dnf)
    → Evaluates t next (sorted most depth next definitions).definitions → Under t 0 1 (sorted most depth next definitions).outputs (count_by (holds t) definitions)
unfolding sorted
under_sorted t most zero next [] e = tt
under_sorted t most zero next (g ∷ definitions) e = ((λ is. subst (λ n. 0 < n) (sym (count_cons t g definitions)) (counted (holds t g) (sym e.0 ∙ is))), tt)
  where
    counted : (b : Bool) → b ≡ true → 0 < cond b 1 0 + count_by (holds t) definitions
    counted true h = omega arith
    counted false h = cc
under_sorted t most (suc depth) next definitions e =
    let front = take (2 ^ depth) definitions in
    let back = drop (2 ^ depth) definitions in
    let left = sorted most depth next front in
    let right = sorted most depth (next + length left.definitions) back in
    let both = merged most depth (next + length left.definitions + length right.definitions) left.outputs right.outputs in
    let parts = evaluates_three t next left.definitions right.definitions both.definitions e in
    under_take t 0 1 most both.outputs (count_by (holds t) definitions)
    (subst (λ n. Under t 0 1 both.outputs n) (sum_by-take-drop (λ g. cond (holds t g) 1 0) definitions (2 ^ depth))
    (under_merged t most depth (next + length left.definitions + length right.definitions) left.outputs right.outputs (count_by (holds t) front) (count_by (holds t) back) parts.2
    (under_sorted t most depth next front parts.0) (under_sorted t most depth (next + length left.definitions) back parts.1)))

-- ---- clauses

abbrev Is : Assignment → List Literal → Type 0
Is t clause = IsTrue (is_satisfied_by t clause)

none : (t : Assignment) → SatisfiesAll t []
none t = All-nil (Is t)

one : (t : Assignment) (clause : List Literal) (clauses : List (List Literal)) → is_satisfied_by t clause ≡ true → SatisfiesAll t clauses → SatisfiesAll t (clause ∷ clauses)
one t clause clauses h all = All-cons (Is t) clause clauses h all

and_then : (t : Assignment) (xs ys : List (List Literal)) → SatisfiesAll t xs → SatisfiesAll t ys → SatisfiesAll t (xs ++ ys)
and_then t xs ys h k = All-append (Is t) xs ys h k

negated_all : (t : Assignment) (term : List Literal) (variable : ℕ) → is_satisfied_by t (map negated term ++ is_in variable ∷ []) ≡ (not (list_all (is_true_in t) term) || t variable)
negated_all t [] variable = or_none (t variable)
  where
    or_none : (b : Bool) → (b || false) ≡ b
    or_none true = refl
    or_none false = refl
negated_all t (c ∷ term) variable = ap (λ b. is_true_in t (negated c) || b) (negated_all t term variable) ∙ by (t c.variable) c.positive (list_all (is_true_in t) term)
  where
    by : (b positive rest : Bool) → (cond (not positive) b (not b) || (not rest || t variable)) ≡ (not (cond positive b (not b) && rest) || t variable)
    by true true rest = refl
    by true false rest = refl
    by false true rest = refl
    by false false rest = refl

definition_satisfied : (t : Assignment) (variable : ℕ) (definition : Dnf) → (holds t definition ≡ true → t variable ≡ true) → SatisfiesAll t (defining_clauses variable definition)
definition_satisfied t variable [] h = none t
definition_satisfied t variable (term ∷ definition) h =
    one t (map negated term ++ is_in variable ∷ []) (defining_clauses variable definition) (negated_all t term variable ∙ here (list_all (is_true_in t) term) refl)
    (definition_satisfied t variable definition (λ more. h (ap (λ b. list_all (is_true_in t) term || b) more ∙ or_last (list_all (is_true_in t) term))))
  where
    or_last : (b : Bool) → (b || true) ≡ true
    or_last true = refl
    or_last false = refl

    here : (b : Bool) → list_all (is_true_in t) term ≡ b → (not b || t variable) ≡ true
    here true all = h (ap (λ b. b || holds t definition) all)
    here false all = refl

pub definitions_satisfied : (t : Assignment) (next : ℕ) (definitions : List Dnf) → Evaluates t next definitions → SatisfiesAll t (clauses_from next definitions)
definitions_satisfied t next [] e = none t
definitions_satisfied t next (g ∷ definitions) e = and_then t (defining_clauses next g) (clauses_from (next + 1) definitions) (definition_satisfied t next g (λ h. e.0 ∙ h)) (definitions_satisfied t (next + 1) definitions e.1)

-- ---- constraints

-- the definitions of the counts of constraints
abbrev pub definitions_of : ℕ → List AtMost → List Dnf
definitions_of next [] = []
definitions_of next (constraint ∷ constraints) = (counter next constraint).definitions ++ definitions_of (next + length (counter next constraint).definitions) constraints

any_append : (t : Assignment) (xs ys : List Literal) → is_satisfied_by t (xs ++ ys) ≡ (is_satisfied_by t xs || is_satisfied_by t ys)
any_append t xs ys = list_any-append (is_true_in t) xs ys

strict_satisfied : (t : Assignment) (strict : List Literal) (s : ℕ) (outputs : List ℕ) (p : ℕ) → p ≤ s → Under t s 1 outputs p
    → SatisfiesAll t (map (λ variable. strict ++ is_out variable ∷ []) outputs)
strict_satisfied t strict s [] p le u = none t
strict_satisfied t strict s (x ∷ xs) p le u =
    one t (strict ++ is_out x ∷ []) (map (λ variable. strict ++ is_out variable ∷ []) xs)
    (any_append t strict (is_out x ∷ []) ∙ ap (λ b. is_satisfied_by t strict || b) (out (t x) refl) ∙ or_last (is_satisfied_by t strict))
    (strict_satisfied t strict (s + 1) xs p (omega arith) u.1)
  where
    or_last : (b : Bool) → (b || true) ≡ true
    or_last true = refl
    or_last false = refl

    out : (b : Bool) → t x ≡ b → (not (t x) || false) ≡ true
    out true is = let low = u.0 is in absurd (omega arith)
    out false is = ap (λ b. not b || false) is

already : (t : Assignment) (strict : List Literal) (outputs : List ℕ) → is_satisfied_by t strict ≡ true → SatisfiesAll t (map (λ variable. strict ++ is_out variable ∷ []) outputs)
already t strict [] h = none t
already t strict (x ∷ xs) h =
    one t (strict ++ is_out x ∷ []) (map (λ variable. strict ++ is_out variable ∷ []) xs) (any_append t strict (is_out x ∷ []) ∙ ap (λ b. b || is_satisfied_by t (is_out x ∷ [])) h) (already t strict xs h)

kept_or_more : (t : Assignment) (most next : ℕ) (strict : List Literal) (constraints : List AtMost) (outputs : List ℕ) (p : ℕ) → Under t 0 1 outputs p
    → (is_satisfied_by t strict || (nat_lt p most || (nat_le p most && are_less t constraints))) ≡ true
    → ((own : List Literal) → (is_satisfied_by t (strict ++ own) || are_less t constraints) ≡ true → SatisfiesAll t (lexicographic_clauses next (strict ++ own) constraints))
    → SatisfiesAll t (option_map_or (λ own. lexicographic_clauses next (strict ++ own) constraints) (strict_of most outputs) [])
kept_or_more t zero next strict constraints outputs p u h more = more [] (ap (λ b. b || are_less t constraints) (any_append t strict []) ∙ by (is_satisfied_by t strict) (nat_le p 0) (are_less t constraints) h)
  where
    by : (a b c : Bool) → (a || (nat_lt p 0 || (b && c))) ≡ true → ((a || false) || c) ≡ true
    by a b c h = grind (arith, common_steps, nat_tests)
kept_or_more t (suc n) next strict constraints outputs p u h more = at (slice_get outputs n) (λ x at is. omega (arith, under_get t 0 n outputs p u x at is))
  where
    at : (o : Option ℕ) → ((x : ℕ) → o ≡ Some x → t x ≡ true → n < p) → SatisfiesAll t (option_map_or (λ own. lexicographic_clauses next (strict ++ own) constraints) (option_map (λ variable. is_out variable ∷ []) o) [])
    at None low = none t
    at (Some x) low = more (is_out x ∷ []) (ap (λ b. b || are_less t constraints) (any_append t strict (is_out x ∷ [])) ∙ by (t x) (is_satisfied_by t strict) (are_less t constraints) (low x refl) h)
      where
        by : (b a c : Bool) → (b ≡ true → n < p) → (a || (nat_lt p (suc n) || (nat_le p (suc n) && c))) ≡ true → ((a || (not b || false)) || c) ≡ true
        by b a c low h = grind (arith, common_steps, nat_tests)

-- the clauses of constraints are satisfied where definitions are what their outputs say, and the first constraints are kept
pub bounds_satisfied : (t : Assignment) (next : ℕ) (strict : List Literal) (constraints : List AtMost) → Evaluates t next (definitions_of next constraints)
    → (is_satisfied_by t strict || are_less t constraints) ≡ true → SatisfiesAll t (lexicographic_clauses next strict constraints)
unfolding lexicographic_clauses
bounds_satisfied t next strict [] e h = one t strict [] (or_none (is_satisfied_by t strict) h) (none t)
  where
    or_none : (b : Bool) → (b || false) ≡ true → b ≡ true
    or_none true h = refl
    or_none false h = h
bounds_satisfied t next strict (constraint ∷ constraints) e h =
    let c = counter next constraint in
    let own = evaluates_left t next c.definitions (definitions_of (next + length c.definitions) constraints) e in
    let u = under_sorted t (output_count constraint) 32 next constraint.formulas own in
    and_then t (clauses_from next c.definitions ++ map (λ variable. strict ++ is_out variable ∷ []) (drop constraint.bound c.outputs))
    (option_map_or (λ own. lexicographic_clauses (next + length c.definitions) (strict ++ own) constraints) (strict_of constraint.bound c.outputs) [])
    (and_then t (clauses_from next c.definitions) (map (λ variable. strict ++ is_out variable ∷ []) (drop constraint.bound c.outputs)) (definitions_satisfied t next c.definitions own)
    (kept (is_satisfied_by t strict) refl (under_drop t 0 constraint.bound c.outputs (count t constraint) u)))
    (kept_or_more t constraint.bound (next + length c.definitions) strict constraints c.outputs (count t constraint) u h
    (λ more. bounds_satisfied t (next + length c.definitions) (strict ++ more) constraints (evaluates_right t next c.definitions (definitions_of (next + length c.definitions) constraints) e)))
  where
    kept : (b : Bool) → is_satisfied_by t strict ≡ b → Under t (0 + constraint.bound) 1 (drop constraint.bound (counter next constraint).outputs) (count t constraint)
        → SatisfiesAll t (map (λ variable. strict ++ is_out variable ∷ []) (drop constraint.bound (counter next constraint).outputs))
    kept true is u = already t strict (drop constraint.bound (counter next constraint).outputs) is
    kept false is u = strict_satisfied t strict (0 + constraint.bound) (drop constraint.bound (counter next constraint).outputs) (count t constraint)
        (at_most (count t constraint) constraint.bound (are_less t constraints) (ap (λ b. b || (nat_lt (count t constraint) constraint.bound || (nat_le (count t constraint) constraint.bound && are_less t constraints))) (sym is) ∙ h)) u
      where
        at_most : (p m : ℕ) (c : Bool) → (nat_lt p m || (nat_le p m && c)) ≡ true → p ≤ 0 + m
        at_most p m c h = grind (arith, common_steps, nat_tests)

-- ---- outputs that follow

-- the definition is the same for assignments that are the same below the variable
abbrev pub IsSteady : ℕ → Dnf → Type 0
IsSteady next definition = (t u : Assignment) → ((variable : ℕ) → variable < next → t variable ≡ u variable) → holds t definition ≡ holds u definition

-- each definition is, below its own variable
abbrev pub AreSteady : ℕ → List Dnf → Type 0
AreSteady next [] = Unit {0}
AreSteady next (g ∷ definitions) = IsSteady next g × AreSteady (next + 1) definitions

-- outputs from one on, by their definitions
extend : Assignment → ℕ → List Dnf → Assignment
extend t next [] = t
extend t next (g ∷ definitions) = extend (λ variable. if variable == next then holds t g else t variable) (next + 1) definitions

differs : (m n : ℕ) → m < n → (m == n) ≡ false
differs m n h = grind (arith, nat_tests)

extend_below : (t : Assignment) (next : ℕ) (definitions : List Dnf) (variable : ℕ) → variable < next → extend t next definitions variable ≡ t variable
unfolding extend
extend_below t next [] variable lt = refl
extend_below t next (g ∷ definitions) variable lt =
    extend_below (λ variable. if variable == next then holds t g else t variable) (next + 1) definitions variable (omega arith)
    ∙ ap (λ b. cond b (holds t g) (t variable)) (differs variable next (omega arith))

extend_evaluates : (t : Assignment) (next : ℕ) (definitions : List Dnf) → AreSteady next definitions → Evaluates (extend t next definitions) next definitions
unfolding extend
extend_evaluates t next [] h = tt
extend_evaluates t next (g ∷ definitions) h =
    let more : Assignment = λ variable. if variable == next then holds t g else t variable in
    let all = extend more (next + 1) definitions in (
      extend_below more (next + 1) definitions next (omega arith) ∙ ap (λ b. cond b (holds t g) (t next)) (eq-eqb next next refl)
          ∙ h.0 t all (λ variable lt. sym (extend_below more (next + 1) definitions variable (omega arith) ∙ ap (λ b. cond b (holds t g) (t variable)) (differs variable next (omega arith)))),
      extend_evaluates more (next + 1) definitions h.1,
    )

-- ---- networks speak of earlier outputs alone

abbrev pub Within : ℕ → List ℕ → Type 0
Within n [] = Unit {0}
Within n (x ∷ xs) = (x < n) × Within n xs

within_more : (n m : ℕ) (xs : List ℕ) → n ≤ m → Within n xs → Within m xs
within_more n m [] le h = tt
within_more n m (x ∷ xs) le h = (let lt = h.0 in omega arith, within_more n m xs le h.1)

within_take : (n k : ℕ) (xs : List ℕ) → Within n xs → Within n (take k xs)
within_take n zero xs h = tt
within_take n (suc k) [] h = tt
within_take n (suc k) (x ∷ xs) h = (h.0, within_take n k xs h.1)

within_drop : (n k : ℕ) (xs : List ℕ) → Within n xs → Within n (drop k xs)
within_drop n zero xs h = h
within_drop n (suc k) [] h = tt
within_drop n (suc k) (x ∷ xs) h = within_drop n k xs h.1

within_append : (n : ℕ) (xs ys : List ℕ) → Within n xs → Within n ys → Within n (xs ++ ys)
within_append n [] ys h k = k
within_append n (x ∷ xs) ys h k = (h.0, within_append n xs ys h.1 k)

within_evens : (n : ℕ) (xs : List ℕ) → Within n xs → Within n (evens xs)
unfolding evens
within_evens n [] h = tt
within_evens n (x ∷ []) h = (h.0, tt)
within_evens n (x ∷ y ∷ xs) h = (h.0, within_evens n xs h.1.1)

steady_at : (n m : ℕ) (definitions : List Dnf) → n ≡ m → AreSteady n definitions → AreSteady m definitions
steady_at n m definitions e h = subst (λ k. AreSteady k definitions) e h

steady_append : (n : ℕ) (xs ys : List Dnf) → AreSteady n xs → AreSteady (n + length xs) ys → AreSteady n (xs ++ ys)
steady_append n [] ys h k = steady_at (n + 0) n ys (omega arith) k
steady_append n (x ∷ xs) ys h k = (h.0, steady_append (n + 1) xs ys h.1 (steady_at (n + suc (length xs)) (n + 1 + length xs) ys (omega arith) k))

-- definitions from a variable on, and outputs that they end with
abbrev IsSound : ℕ → Network → Type 0
IsSound next s = AreSteady next s.definitions × Within (next + length s.definitions) s.outputs

sound_compared : (next : ℕ) (xs ys : List ℕ) → Within next xs → Within next ys → IsSound next (compared next xs ys)
unfolding compared
sound_compared next [] ys h k = (tt, within_more next (next + 0) ys (omega arith) k)
sound_compared next (x ∷ xs) [] h k = (tt, within_more next (next + 0) (x ∷ xs) (omega arith) h)
sound_compared next (x ∷ xs) (y ∷ ys) h k =
    let rest = sound_compared (next + 2) xs ys (within_more next (next + 2) xs (omega arith) h.1) (within_more next (next + 2) ys (omega arith) k.1) in
    let last = next + 2 + length (compared (next + 2) xs ys).definitions in
    let end = next + suc (suc (length (compared (next + 2) xs ys).definitions)) in
    let low = h.0 in
    let near = k.0 in (
      (
        λ t u same i. (same x low i && true) || ((same y near i && true) || false),
        (λ t u same i. (same x (omega arith) i && (same y (omega arith) i && true)) || false, steady_at (next + 2) (next + 1 + 1) (compared (next + 2) xs ys).definitions (omega arith) rest.0),
      ),
      (omega arith, (omega arith, within_more last end (compared (next + 2) xs ys).outputs (omega arith) rest.1)),
    )

within_at : (n m : ℕ) (xs : List ℕ) → n ≡ m → Within n xs → Within m xs
within_at n m xs e h = subst (λ k. Within k xs) e h

steady_definition_more : (n m : ℕ) (definition : Dnf) → n ≤ m → IsSteady n definition → IsSteady m definition
steady_definition_more n m definition le h = λ t u same. h t u (λ variable lt. same variable (omega arith))

within_range : (next m : ℕ) → Within (next + m) (range_with_len next m)
within_range next zero = tt
within_range next (suc m) = (omega arith, within_at (next + 1 + m) (next + suc m) (range_with_len (next + 1) m) (omega arith) (within_range (next + 1) m))

steady_both : (n : ℕ) (g h : Dnf) → IsSteady n g → IsSteady n h → IsSteady n (both_of g h)
steady_both n g h a b t u same = both_holds t g h ∙ (λ i. a t u same i && b t u same i) ∙ sym (both_holds u g h)

steady_at_least : (n i : ℕ) (xs : List ℕ) → Within n xs → IsSteady n (at_least i xs)
steady_at_least n zero xs h t u same = refl
steady_at_least n (suc k) xs h t u same = first (drop k xs) (within_drop n k xs h)
  where
    first : (ys : List ℕ) → Within n ys → holds t (map (λ variable. is_in variable ∷ []) (take 1 ys)) ≡ holds u (map (λ variable. is_in variable ∷ []) (take 1 ys))
    first [] w = refl
    first (y ∷ ys) w = λ i. (same y w.0 i && true) || false

steady_sum : (n : ℕ) (xs ys : List ℕ) → Within n xs → Within n ys → (k : ℕ) → IsSteady n (sum_definition xs ys k)
steady_sum n xs ys h l k t u same =
    any_flat (list_all (is_true_in t)) (λ i. both_of (at_least i xs) (at_least (k - i) ys)) (range_with_len 0 (k + 1))
    ∙ each (range_with_len 0 (k + 1))
    ∙ sym (any_flat (list_all (is_true_in u)) (λ i. both_of (at_least i xs) (at_least (k - i) ys)) (range_with_len 0 (k + 1)))
  where
    each : (is : List ℕ) → list_any (λ i. holds t (both_of (at_least i xs) (at_least (k - i) ys))) is ≡ list_any (λ i. holds u (both_of (at_least i xs) (at_least (k - i) ys))) is
    each [] = refl
    each (i ∷ is) = λ j. steady_both n (at_least i xs) (at_least (k - i) ys) (steady_at_least n i xs h) (steady_at_least n (k - i) ys l) t u same j || each is j

steady_sums : (n : ℕ) (xs ys : List ℕ) → Within n xs → Within n ys → (m next s : ℕ) → n ≤ next → AreSteady next (map (sum_definition xs ys) (range_with_len s m))
steady_sums n xs ys h k zero next s le = tt
steady_sums n xs ys h k (suc m) next s le = (steady_definition_more n next (sum_definition xs ys s) le (steady_sum n xs ys h k s), steady_sums n xs ys h k m (next + 1) (s + 1) (omega arith))

pub length_sums : (xs ys : List ℕ) (m s : ℕ) → length (map (sum_definition xs ys) (range_with_len s m)) ≡ m
length_sums xs ys zero s = refl
length_sums xs ys (suc m) s = ap suc (length_sums xs ys m (s + 1))

sound_added : (most next : ℕ) (xs ys : List ℕ) → Within next xs → Within next ys → IsSound next (added most next xs ys)
unfolding added
sound_added most next xs ys h k =
    let n = min most (length xs + length ys) in
    let long = length_sums xs ys n 1 in (
      steady_sums next xs ys h k n next 1 (omega arith),
      within_at (next + n) (next + length (map (sum_definition xs ys) (range_with_len 1 n))) (range_with_len next n) (omega arith) (within_range next n),
    )

sound_joined : (next : ℕ) (even odd : Network) → IsSound next even → IsSound (next + length even.definitions) odd → IsSound next (joined next even odd)
sound_joined next even odd a b =
    let n1 = next + length even.definitions in
    let n2 = n1 + length odd.definitions in
    let last = compared n2 odd.outputs (drop 1 even.outputs) in
    let c = sound_compared n2 odd.outputs (drop 1 even.outputs) b.1 (within_more n1 n2 (drop 1 even.outputs) (omega arith) (within_drop n1 1 even.outputs a.1)) in
    let end = next + length (even.definitions ++ odd.definitions ++ last.definitions) in
    let two = length-append even.definitions odd.definitions in
    let all = length-append (even.definitions ++ odd.definitions) last.definitions in (
      steady_append next (even.definitions ++ odd.definitions) last.definitions (steady_append next even.definitions odd.definitions a.0 b.0) (steady_at n2 (next + length (even.definitions ++ odd.definitions)) last.definitions (omega arith) c.0),
      within_append end (take 1 even.outputs) last.outputs (within_more n1 end (take 1 even.outputs) (omega arith) (within_take n1 1 even.outputs a.1)) (within_more (n2 + length last.definitions) end last.outputs (omega arith) c.1),
    )

sound_merged : (most depth next : ℕ) (xs ys : List ℕ) → Within next xs → Within next ys → IsSound next (merged most depth next xs ys)
unfolding merged
sound_merged most depth next [] ys h k = (tt, within_more next (next + 0) ys (omega arith) k)
sound_merged most depth next (x ∷ xs) [] h k = (tt, within_more next (next + 0) (x ∷ xs) (omega arith) h)
sound_merged most zero next (x ∷ xs) (y ∷ ys) h k = sound_added most next (x ∷ xs) (y ∷ ys) h k
sound_merged most (suc depth) next (x ∷ xs) (y ∷ ys) h k =
    let even = merged most depth next (evens (x ∷ xs)) (evens (y ∷ ys)) in
    let n1 = next + length even.definitions in
    by even (merged most depth n1 (evens xs) (evens ys)) (nat_le (length xs) 31 && nat_le (length ys) 31)
    (sound_merged most depth next (evens (x ∷ xs)) (evens (y ∷ ys)) (within_evens next (x ∷ xs) h) (within_evens next (y ∷ ys) k))
    (sound_merged most depth n1 (evens xs) (evens ys) (within_more next n1 (evens xs) (omega arith) (within_evens next xs h.1)) (within_more next n1 (evens ys) (omega arith) (within_evens next ys k.1)))
  where
    by : (even odd : Network) (b : Bool) → IsSound next even → IsSound (next + length even.definitions) odd → IsSound next (cond b (added most next (x ∷ xs) (y ∷ ys)) (joined next even odd))
    by even odd true a b = sound_added most next (x ∷ xs) (y ∷ ys) h k
    by even odd false a b = sound_joined next even odd a b

-- each of them, below the variable
abbrev pub AllSteady : ℕ → List Dnf → Type 0
AllSteady next [] = Unit {0}
AllSteady next (g ∷ definitions) = IsSteady next g × AllSteady next definitions

all_steady_more : (n m : ℕ) (definitions : List Dnf) → n ≤ m → AllSteady n definitions → AllSteady m definitions
all_steady_more n m [] le h = tt
all_steady_more n m (g ∷ definitions) le h = (steady_definition_more n m g le h.0, all_steady_more n m definitions le h.1)

all_steady_take : (n k : ℕ) (definitions : List Dnf) → AllSteady n definitions → AllSteady n (take k definitions)
all_steady_take n zero definitions h = tt
all_steady_take n (suc k) [] h = tt
all_steady_take n (suc k) (g ∷ definitions) h = (h.0, all_steady_take n k definitions h.1)

all_steady_drop : (n k : ℕ) (definitions : List Dnf) → AllSteady n definitions → AllSteady n (drop k definitions)
all_steady_drop n zero definitions h = h
all_steady_drop n (suc k) [] h = tt
all_steady_drop n (suc k) (g ∷ definitions) h = all_steady_drop n k definitions h.1

sound_sorted : (most depth next : ℕ) (definitions : List Dnf) → AllSteady next definitions → IsSound next (sorted most depth next definitions)
unfolding sorted
sound_sorted most zero next [] h = (tt, tt)
sound_sorted most zero next (g ∷ definitions) h = ((h.0, tt), (omega arith, tt))
sound_sorted most (suc depth) next definitions h =
    let front = take (2 ^ depth) definitions in
    let back = drop (2 ^ depth) definitions in
    let left = sorted most depth next front in
    let n1 = next + length left.definitions in
    let right = sorted most depth n1 back in
    let n2 = n1 + length right.definitions in
    let both = merged most depth n2 left.outputs right.outputs in
    let a = sound_sorted most depth next front (all_steady_take next (2 ^ depth) definitions h) in
    let b = sound_sorted most depth n1 back (all_steady_more next n1 back (omega arith) (all_steady_drop next (2 ^ depth) definitions h)) in
    let c = sound_merged most depth n2 left.outputs right.outputs (within_more n1 n2 left.outputs (omega arith) a.1) b.1 in
    let end = next + length (left.definitions ++ right.definitions ++ both.definitions) in
    let two = length-append left.definitions right.definitions in
    let all = length-append (left.definitions ++ right.definitions) both.definitions in (
      steady_append next (left.definitions ++ right.definitions) both.definitions (steady_append next left.definitions right.definitions a.0 b.0) (steady_at n2 (next + length (left.definitions ++ right.definitions)) both.definitions (omega arith) c.0),
      within_take end most both.outputs (within_more (n2 + length both.definitions) end both.outputs (omega arith) c.1),
    )

-- ---- the law

abbrev BoundsSteady : ℕ → List AtMost → Type 0
BoundsSteady next [] = Unit {0}
BoundsSteady next (constraint ∷ constraints) = AllSteady next constraint.formulas × BoundsSteady next constraints

bounds_more : (n m : ℕ) (constraints : List AtMost) → n ≤ m → BoundsSteady n constraints → BoundsSteady m constraints
bounds_more n m [] le h = tt
bounds_more n m (constraint ∷ constraints) le h = (all_steady_more n m constraint.formulas le h.0, bounds_more n m constraints le h.1)

steady_bounds : (next : ℕ) (constraints : List AtMost) → BoundsSteady next constraints → AreSteady next (definitions_of next constraints)
steady_bounds next [] h = tt
steady_bounds next (constraint ∷ constraints) h =
    let c = counter next constraint in
    steady_append next c.definitions (definitions_of (next + length c.definitions) constraints) (sound_sorted (output_count constraint) 32 next constraint.formulas h.0).0
    (steady_bounds (next + length c.definitions) constraints (bounds_more next (next + length c.definitions) constraints (omega arith) h.1))

all_true_same : (next : ℕ) (t u : Assignment) → ((variable : ℕ) → variable < next → t variable ≡ u variable) → (term : List Literal) → All (λ l. l.variable < next) term
    → list_all (is_true_in t) term ≡ list_all (is_true_in u) term
all_true_same next t u same [] h = refl
all_true_same next t u same (c ∷ term) h =
    let here = same c.variable (All-head (λ (l : Literal). l.variable < next) c term h) in
    λ i. cond c.positive (here i) (not (here i)) && all_true_same next t u same term (All-tail (λ (l : Literal). l.variable < next) c term h) i

steady_from_below : (next : ℕ) (definition : Dnf) → All (All (λ l. l.variable < next)) definition → IsSteady next definition
steady_from_below next [] h t u same = refl
steady_from_below next (term ∷ definition) h t u same =
    let P : List Literal → Type 0 = All (λ (l : Literal). l.variable < next) in
    λ i. all_true_same next t u same term (All-head P term definition h) i || steady_from_below next definition (All-tail P term definition h) t u same i

all_steady_from_below : (next : ℕ) (definitions : List Dnf) → AreBelow next definitions → AllSteady next definitions
all_steady_from_below next [] h = tt
all_steady_from_below next (g ∷ definitions) h =
    let P : Dnf → Type 0 = All (All (λ (l : Literal). l.variable < next)) in
    (steady_from_below next g (All-head P g definitions h), all_steady_from_below next definitions (All-tail P g definitions h))

bounds_from_below : (next : ℕ) (constraints : List AtMost) → All (λ constraint. AreBelow next constraint.formulas) constraints → BoundsSteady next constraints
bounds_from_below next [] h = tt
bounds_from_below next (constraint ∷ constraints) h =
    let P : AtMost → Type 0 = λ b. AreBelow next b.formulas in
    (all_steady_from_below next constraint.formulas (All-head P constraint constraints h), bounds_from_below next constraints (All-tail P constraint constraints h))

-- the extension keeps the counts, as formulas speak of earlier outputs
count_same : (next : ℕ) (t u : Assignment) → ((variable : ℕ) → variable < next → t variable ≡ u variable) → (definitions : List Dnf) → AllSteady next definitions → count_by (holds t) definitions ≡ count_by (holds u) definitions
count_same next t u same [] h = refl
count_same next t u same (g ∷ definitions) h = count_cons t g definitions ∙ (λ i. cond (h.0 t u same i) 1 0 + count_same next t u same definitions h.1 i) ∙ sym (count_cons u g definitions)

less_same : (next : ℕ) (t u : Assignment) → ((variable : ℕ) → variable < next → t variable ≡ u variable) → (constraints : List AtMost) → BoundsSteady next constraints → are_less t constraints ≡ are_less u constraints
less_same next t u same [] h = refl
less_same next t u same (constraint ∷ constraints) h =
    let c = count_same next t u same constraint.formulas h.0 in
    λ i. nat_lt (c i) constraint.bound || (nat_le (c i) constraint.bound && less_same next t u same constraints h.1 i)

pub less_satisfies : LessSatisfies
less_satisfies next t constraints below fewer =
    let steady = bounds_from_below next constraints below in
    let definitions = definitions_of next constraints in
    let all = extend t next definitions in
    record {
      extended = all;
      same = λ variable lt. extend_below t next definitions variable lt;
      all = bounds_satisfied all next [] constraints (extend_evaluates t next definitions (steady_bounds next constraints steady)) (less_same next all t (λ variable lt. extend_below t next definitions variable lt) constraints steady ∙ fewer);
    }
