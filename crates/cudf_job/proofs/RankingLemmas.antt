-- The ranking has all entrants, and each precedes all later ones.
use Rattle.std.proofs.Common.{◌≡◌, ◌+◌, ◌<◌, ◌≤◌, ℕ, zero, suc, Bool, true, false, not, ◌&&◌, ◌==◌, cond, if◌then◌else◌, List, [], ◌∷◌, ◌++◌, ◌⊎◌, inl, inr, Some, find, length, get_or, IsTrue, IsPermutation, refl, sym, ap, ◌∙◌, subst, append-nil, eqb-true, arith}
use Rattle.std.proofs.lemmas.Bool.{eq-eqb, cases_lt, and_from as both}
use Rattle.std.proofs.lemmas.Bool.Decides.{nat_tests}
use Rattle.std.proofs.lemmas.Cmp.{ranked, tied_itself, nat_cmp_total, on_total, then_total, back_total}
use Rattle.std.proofs.lemmas.List.Elements.{All-from_recursion, recursion_from_All}
use Rattle.std.proofs.lemmas.List.Sorted.{All-permutation, IsPermutation-refl, IsPermutation-sym, IsPermutation-trans, IsPermutation-append_left, IsPermutation-middle, IsPermutation-insert}
use Rattle.std.specs.Cmp.{IsTotalOrder, IsStrictWeakOrder}
use Rattle.std.specs.List.{AllByRecursion, IsDistinct, fold, list_all, position_or_len, insert}
use Rattle.std.specs.List.Sorted.{IsSortedBy}
use Rattle.std.specs.Option.{option_map_or}
use Rattle.std.proofs.lemmas.List.MinMax.{ranks_by}
use Rattle.std.proofs.lemmas.Map.Keys.{apart_from_distinct, IsDistinct-IsPermutation}
use Rattle.std.specs.Ordering.{nat_cmp, ordering_then, ordering_reverse, is_lt, on, then_cmp}
use Rattle.std.specs.declared.cmp.Ordering.{Ordering}
use Rattle.std.specs.declared.cmp.Ordering.TheVariants.{Less, Equal, Greater}
use Rattle.cudf_job.specs.Aims.{count_row}
use Rattle.cudf_job.specs.Comparing.{sign_cmp, aim_cmp, differ_in, compare}
use Rattle.cudf_job.specs.declared.criteria.Aim.{Aim}
use Rattle.cudf_job.specs.declared.criteria.Sign.{Sign}
use Rattle.cudf_job.specs.declared.criteria.Sign.TheVariants.{Least, Most}
use Rattle.cudf_job.specs.declared.criteria.Criteria.{Criteria}
use Rattle.cudf_job.specs.Ranking.{class, compare_counts, precedes, put, ranking, have_own_places, ascend}
use Rattle.cudf_job.specs.declared.ranking.Judgement.{Judgement}
use Rattle.cudf_job.specs.declared.ranking.Judgement.TheVariants.{Solution, NoSolution, SaysFail}
use Rattle.cudf_job.specs.declared.ranking.Entrant.{Entrant}

-- tests and orders
pub and_left : (a b : Bool) → (a && b) ≡ true → a ≡ true
and_left true b h = refl
and_left false b h = h

pub and_right : (a b : Bool) → (a && b) ≡ true → b ≡ true
and_right true b h = h
and_right false b h = absurd (cc h)

pub is_less : (o : Ordering) → is_lt o ≡ true → o ≡ Less
is_less Less h = refl
is_less Equal h = absurd (cc h)
is_less Greater h = absurd (cc h)

-- to insert before the first that it precedes is to put in place
inserted : (aims : List Aim) (x : Entrant) (ys : List Entrant) → insert ys (position_or_len (precedes aims x) ys) x ≡ put aims ys x
inserted aims x [] = refl
inserted aims x (y ∷ ys) = here (precedes aims x y) (inserted aims x ys)
  where
    n : ℕ
    n = position_or_len (precedes aims x) ys

    next : 1 + n ≡ suc n
    next = omega arith

    here : (b : Bool) → insert ys n x ≡ put aims ys x → insert (y ∷ ys) (cond (not b) (1 + n) 0) x ≡ (if b then x ∷ y ∷ ys else y ∷ put aims ys x)
    here true below = refl
    here false below = ap (λ m. insert (y ∷ ys) m x) next ∙ ap (λ zs. y ∷ zs) below

clash : (b : Bool) → b ≡ true → b ≡ false → ⊥
clash true h k = absurd (cc k)
clash false h k = absurd (cc h)

-- ---- counts, compared by a list of aims

sign_total : (sign : Sign) → IsTotalOrder (sign_cmp sign)
sign_total Least = nat_cmp_total
sign_total Most = back_total nat_cmp_total

sign_equal : (sign : Sign) (m n : ℕ) → sign_cmp sign m n ≡ Equal → m ≡ n
sign_equal Least m n is = ranked m n Equal (sym is)
sign_equal Most m n is = sym (ranked n m Equal (sym is))

aim_total : (aim : Aim) → IsTotalOrder (λ c d. aim_cmp c d aim)
aim_total aim = on_total (count_row aim.count).1 (sign_total aim.sign)

-- the first aim decides, or else the others
compare_first : (aim : Aim) (aims : List Aim) (c d : Criteria) → compare (aim ∷ aims) c d ≡ ordering_then (aim_cmp c d aim) (compare aims c d)
compare_first aim aims c d = by (m == n) refl
  where
    m : ℕ
    m = (count_row aim.count).1 c

    n : ℕ
    n = (count_row aim.count).1 d

    decides : (o : Ordering) → (o ≡ Equal → ⊥) → o ≡ ordering_then o (compare aims c d)
    decides Less other = refl
    decides Equal other = absurd (other refl)
    decides Greater other = refl

    by : (b : Bool) → (m == n) ≡ b → option_map_or (aim_cmp c d) (cond (not b) (Some aim) (find (differ_in c d) aims)) Equal ≡ ordering_then (aim_cmp c d aim) (compare aims c d)
    by true is = ap (λ o. ordering_then o (compare aims c d)) (sym (ap (sign_cmp aim.sign m) (sym (eqb-true m n is)) ∙ tied_itself (sign_total aim.sign) m))
    by false is = decides (aim_cmp c d aim) (λ same. clash (m == n) (eq-eqb m n (sign_equal aim.sign m n same)) is)

compare_total : (aims : List Aim) → IsTotalOrder (compare aims)
compare_total [] = record { antisymm = λ c d. refl; trans = λ c d e h k. h; congr = λ c d e h. refl }
compare_total (aim ∷ aims) = subst IsTotalOrder (λ i c d. sym (compare_first aim aims c d) i) (then_total (aim_total aim) (compare_total aims))

-- ---- entrants

no_counts : Criteria
no_counts = record { removed = 0; new = 0; changed = 0; notuptodate = 0; unsat_recommends = 0; touched = 0 }

abbrev counts_of : Judgement → Criteria
counts_of (Solution c) = c
counts_of NoSolution = no_counts
counts_of SaysFail = no_counts

-- by class, then by the counts, then by place, as if all had counts
rank_cmp : List Aim → Entrant → Entrant → Ordering
rank_cmp aims = then_cmp (on (λ s. class s.judgement) nat_cmp) (then_cmp (on (λ s. counts_of s.judgement) (compare aims)) (on (λ s. s.place) nat_cmp))

rank_total : (aims : List Aim) → IsTotalOrder (rank_cmp aims)
unfolding rank_cmp
rank_total aims = then_total (on_total (λ (s : Entrant). class s.judgement) nat_cmp_total)
    (then_total (on_total (λ (s : Entrant). counts_of s.judgement) (compare_total aims)) (on_total (λ (s : Entrant). s.place) nat_cmp_total))

precedes_is : (aims : List Aim) (x y : Entrant) → precedes aims x y ≡ is_lt (rank_cmp aims x y)
unfolding rank_cmp
precedes_is aims x y = by x.judgement y.judgement
  where
    places : Ordering
    places = nat_cmp x.place y.place

    alike : Equal ≡ compare aims no_counts no_counts
    alike = sym (tied_itself (compare_total aims) no_counts)

    by : (v w : Judgement) → is_lt (ordering_then (nat_cmp (class v) (class w)) (ordering_then (compare_counts aims v w) places))
        ≡ is_lt (ordering_then (nat_cmp (class v) (class w)) (ordering_then (compare aims (counts_of v) (counts_of w)) places))
    by (Solution c) (Solution d) = refl
    by (Solution c) NoSolution = refl
    by (Solution c) SaysFail = refl
    by NoSolution (Solution d) = refl
    by NoSolution NoSolution = ap (λ o. is_lt (ordering_then o places)) alike
    by NoSolution SaysFail = refl
    by SaysFail (Solution d) = refl
    by SaysFail NoSolution = refl
    by SaysFail SaysFail = ap (λ o. is_lt (ordering_then o places)) alike

then_equal : (o p : Ordering) → ordering_then o p ≡ Equal → p ≡ Equal
then_equal Less p h = absurd (cc h)
then_equal Equal p h = h
then_equal Greater p h = absurd (cc h)

-- of two at different places one precedes the other
pub one_precedes : (aims : List Aim) (x y : Entrant) → (x.place ≡ y.place → ⊥) → precedes aims x y ≡ false → precedes aims y x ≡ true
unfolding rank_cmp
one_precedes aims x y apart behind = precedes_is aims y x ∙ ap is_lt ((rank_total aims).antisymm y x) ∙ by (rank_cmp aims x y) refl
  where
    by : (o : Ordering) → rank_cmp aims x y ≡ o → is_lt (ordering_reverse (rank_cmp aims x y)) ≡ true
    by Less is = absurd (clash (precedes aims x y) (precedes_is aims x y ∙ ap is_lt is) behind)
    by Equal is = absurd (apart (ranked x.place y.place Equal (sym (then_equal (compare aims (counts_of x.judgement) (counts_of y.judgement)) (nat_cmp x.place y.place)
        (then_equal (nat_cmp (class x.judgement) (class y.judgement)) _ is)))))
    by Greater is = ap (λ o. is_lt (ordering_reverse o)) is

-- what precedes one that precedes a third precedes the third
pub precedes_on : (aims : List Aim) (x y z : Entrant) → precedes aims x y ≡ true → precedes aims y z ≡ true → precedes aims x z ≡ true
precedes_on aims x y z h k = precedes_is aims x z ∙ ap is_lt ((rank_total aims).trans x y z
    (is_less (rank_cmp aims x y) (sym (precedes_is aims x y) ∙ h)) (is_less (rank_cmp aims y z) (sym (precedes_is aims y z) ∙ k)))

-- ---- tests of lists

all_weaker : {X : Type 0} (p q : X → Bool) → ((x : X) → p x ≡ true → q x ≡ true) → (xs : List X) → list_all p xs ≡ true → list_all q xs ≡ true
all_weaker p q implies [] h = refl
all_weaker p q implies (x ∷ xs) h = both (q x) (list_all q xs) (implies x (and_left (p x) (list_all p xs) h)) (all_weaker p q implies xs (and_right (p x) (list_all p xs) h))

all_both : {X : Type 0} (p q r : X → Bool) → ((x : X) → p x ≡ true → q x ≡ true → r x ≡ true) → (xs : List X) → list_all p xs ≡ true → list_all q xs ≡ true → list_all r xs ≡ true
all_both p q r implies [] h k = refl
all_both p q r implies (x ∷ xs) h k = both (r x) (list_all r xs) (implies x (and_left (p x) (list_all p xs) h) (and_left (q x) (list_all q xs) k))
    (all_both p q r implies xs (and_right (p x) (list_all p xs) h) (and_right (q x) (list_all q xs) k))

-- what holds of one and of the others holds of all where the one is put in
all_put : (p : Entrant → Bool) (aims : List Aim) (x : Entrant) (ys : List Entrant) → p x ≡ true → list_all p ys ≡ true → list_all p (put aims ys x) ≡ true
all_put p aims x [] h k = both (p x) true h refl
all_put p aims x (y ∷ ys) h k = by (precedes aims x y) (all_put p aims x ys h (and_right (p y) (list_all p ys) k))
  where
    by : (b : Bool) → list_all p (put aims ys x) ≡ true → list_all p (if b then x ∷ y ∷ ys else y ∷ put aims ys x) ≡ true
    by true rest = both (p x) (p y && list_all p ys) h k
    by false rest = both (p y) (list_all p (put aims ys x)) (and_left (p y) (list_all p ys) k) rest

-- ---- one more is put in

-- at another place
abbrev is_apart : Entrant → Entrant → Bool
is_apart x y = not (x.place == y.place)

apart : (x y : Entrant) → is_apart x y ≡ true → x.place ≡ y.place → ⊥
apart x y other same = clash (is_apart x y) other (ap not (eq-eqb x.place y.place same))

apart_back : (x y : Entrant) → is_apart x y ≡ true → is_apart y x ≡ true
apart_back x y h = by (y.place == x.place) refl
  where
    by : (b : Bool) → (y.place == x.place) ≡ b → not b ≡ true
    by true is = absurd (apart x y h (sym (eqb-true y.place x.place is)))
    by false is = refl

put_ascends : (aims : List Aim) (x : Entrant) (ys : List Entrant) → list_all (is_apart x) ys ≡ true → ascend aims ys ≡ true → ascend aims (put aims ys x) ≡ true
put_ascends aims x [] far h = refl
put_ascends aims x (y ∷ ys) far h = by (precedes aims x y) refl
    (put_ascends aims x ys (and_right (is_apart x y) (list_all (is_apart x) ys) far) (and_right (list_all (precedes aims y) ys) (ascend aims ys) h))
  where
    below : list_all (precedes aims y) ys ≡ true
    below = and_left (list_all (precedes aims y) ys) (ascend aims ys) h

    by : (b : Bool) → precedes aims x y ≡ b → ascend aims (put aims ys x) ≡ true → ascend aims (if b then x ∷ y ∷ ys else y ∷ put aims ys x) ≡ true
    by true is rest = both (precedes aims x y && list_all (precedes aims x) ys) (list_all (precedes aims y) ys && ascend aims ys)
        (both (precedes aims x y) (list_all (precedes aims x) ys) is (all_weaker (precedes aims y) (precedes aims x) (λ z. precedes_on aims x y z is) ys below)) h
    by false is rest = both (list_all (precedes aims y) (put aims ys x)) (ascend aims (put aims ys x))
        (all_put (precedes aims y) aims x ys (one_precedes aims x y (apart x y (and_left (is_apart x y) (list_all (is_apart x) ys) far)) is) below) rest

put_permutes : (aims : List Aim) (x : Entrant) (ys : List Entrant) → IsPermutation (x ∷ ys) (put aims ys x)
put_permutes aims x ys = subst (IsPermutation (x ∷ ys)) (inserted aims x ys) (IsPermutation-insert ys (position_or_len (precedes aims x) ys) x)

-- ---- all are put in

all_ascend : (aims : List Aim) (done xs : List Entrant) → list_all (λ x. list_all (is_apart x) done) xs ≡ true → have_own_places xs ≡ true
    → ascend aims done ≡ true → ascend aims (fold (put aims) done xs) ≡ true
all_ascend aims done [] far own h = h
all_ascend aims done (x ∷ xs) far own h = all_ascend aims (put aims done x) xs
    (all_both (is_apart x) (λ z. list_all (is_apart z) done) (λ z. list_all (is_apart z) (put aims done x))
    (λ z other others. all_put (is_apart z) aims x done (apart_back x z other) others) xs
    (and_left (list_all (is_apart x) xs) (have_own_places xs) own)
    (and_right (list_all (is_apart x) done) (list_all (λ z. list_all (is_apart z) done) xs) far))
    (and_right (list_all (is_apart x) xs) (have_own_places xs) own)
    (put_ascends aims x done (and_left (list_all (is_apart x) done) (list_all (λ z. list_all (is_apart z) done) xs) far) h)

all_permute : (aims : List Aim) (done xs : List Entrant) → IsPermutation (done ++ xs) (fold (put aims) done xs)
all_permute aims done [] = subst (λ ys. IsPermutation ys done) (sym (append-nil done)) (IsPermutation-refl done)
all_permute aims done (x ∷ xs) = IsPermutation-trans _ _ _ (IsPermutation-middle done x xs)
    (IsPermutation-trans _ _ _ (IsPermutation-append_left xs (x ∷ done) (put aims done x) (put_permutes aims x done)) (all_permute aims (put aims done x) xs))

none_before : (xs : List Entrant) → list_all (λ x. list_all (is_apart x) []) xs ≡ true
none_before [] = refl
none_before (x ∷ xs) = none_before xs

-- ---- no other list

-- it is in the list
abbrev Among : Entrant → List Entrant → Type 0
Among w [] = ⊥
Among w (x ∷ xs) = (w ≡ x) ⊎ Among w xs

-- all of these are in the list
abbrev Within : List Entrant → List Entrant → Type 0
Within ys zs = AllByRecursion (λ w. Among w zs) ys

further : (x : Entrant) (xs ys : List Entrant) → Within ys xs → Within ys (x ∷ xs)
further x xs [] h = tt
further x xs (y ∷ ys) h = (inr h.0, further x xs ys h.1)

within_itself : (xs : List Entrant) → Within xs xs
within_itself [] = tt
within_itself (x ∷ xs) = (inl refl, further x xs xs (within_itself xs))

-- lists of the same entrants contain each other
permuted_within : (xs ys : List Entrant) → IsPermutation xs ys → Within ys xs
permuted_within xs ys h = recursion_from_All (λ w. Among w xs) ys (All-permutation (λ w. Among w xs) xs ys h (All-from_recursion (λ w. Among w xs) xs (within_itself xs)))

-- what holds of all holds of each
among_all : (p : Entrant → Bool) (w : Entrant) (xs : List Entrant) → list_all p xs ≡ true → Among w xs → p w ≡ true
among_all p w [] h in_list = absurd in_list
among_all p w (x ∷ xs) h (inl same) = ap p same ∙ and_left (p x) (list_all p xs) h
among_all p w (x ∷ xs) h (inr in_list) = among_all p w xs (and_right (p x) (list_all p xs) h) in_list

-- none precedes itself
not_itself : (aims : List Aim) (x : Entrant) → precedes aims x x ≡ true → ⊥
not_itself aims x h = clash (precedes aims x x) h (precedes_is aims x x ∙ ap is_lt (tied_itself (rank_total aims) x))

-- where each is among others, they begin with the same
first_same : (aims : List Aim) (y z : Entrant) (ys zs : List Entrant) → (y ≡ z) ⊎ Among y zs → (z ≡ y) ⊎ Among z ys
    → list_all (precedes aims y) ys ≡ true → list_all (precedes aims z) zs ≡ true → y ≡ z
first_same aims y z ys zs (inl same) b h k = same
first_same aims y z ys zs (inr a) (inl same) h k = sym same
first_same aims y z ys zs (inr a) (inr b) h k = absurd (not_itself aims y (precedes_on aims y z y (among_all (precedes aims y) z ys h b) (among_all (precedes aims z) y zs k a)))

-- those after the first are among the others after the first
rest_within : (aims : List Aim) (y z : Entrant) (ys zs : List Entrant) → y ≡ z → list_all (precedes aims y) ys ≡ true → Within ys (z ∷ zs) → Within ys zs
rest_within aims y z [] zs same h a = tt
rest_within aims y z (w ∷ ys) zs same h a = (behind a.0, rest_within aims y z ys zs same (and_right (precedes aims y w) (list_all (precedes aims y) ys) h) a.1)
  where
    behind : (w ≡ z) ⊎ Among w zs → Among w zs
    behind (inl first) = absurd (not_itself aims y (ap (precedes aims y) (same ∙ sym first) ∙ and_left (precedes aims y w) (list_all (precedes aims y) ys) h))
    behind (inr later) = later

ascend_same : (aims : List Aim) (ys zs : List Entrant) → Within ys zs → Within zs ys → ascend aims ys ≡ true → ascend aims zs ≡ true → ys ≡ zs
ascend_same aims [] [] a b h k = refl
ascend_same aims [] (z ∷ zs) a b h k = absurd b.0
ascend_same aims (y ∷ ys) [] a b h k = absurd a.0
ascend_same aims (y ∷ ys) (z ∷ zs) a b h k =
    let first_y = and_left (list_all (precedes aims y) ys) (ascend aims ys) h in
    let first_z = and_left (list_all (precedes aims z) zs) (ascend aims zs) k in
    let same = first_same aims y z ys zs a.0 b.0 first_y first_z in
    let rest = ascend_same aims ys zs (rest_within aims y z ys zs same first_y a.1) (rest_within aims z y zs ys (sym same) first_z b.1)
    (and_right (list_all (precedes aims y) ys) (ascend aims ys) h) (and_right (list_all (precedes aims z) zs) (ascend aims zs) k) in
    λ i. same i ∷ rest i

-- ---- the laws

pub ranking_permutes : (aims : List Aim) (xs : List Entrant) → IsPermutation xs (ranking aims xs)
unfolding ranking
ranking_permutes aims xs = all_permute aims [] xs

pub ranking_ascends : (aims : List Aim) (xs : List Entrant) → IsTrue (have_own_places xs) → IsTrue (ascend aims (ranking aims xs))
unfolding ranking
ranking_ascends aims xs own = all_ascend aims [] xs (none_before xs) own refl

pub ranking_alone : (aims : List Aim) (xs ys : List Entrant) → IsTrue (have_own_places xs) → IsPermutation xs ys → IsTrue (ascend aims ys) → ys ≡ ranking aims xs
ranking_alone aims xs ys own same h =
    let all = ranking_permutes aims xs in
    ascend_same aims ys (ranking aims xs) (permuted_within _ _ (IsPermutation-trans _ _ _ (IsPermutation-sym _ _ all) same))
    (permuted_within _ _ (IsPermutation-trans _ _ _ (IsPermutation-sym _ _ same) all)) h (ranking_ascends aims xs own)

-- ---- what a sort gives

pub precedes_weak : (aims : List Aim) → IsStrictWeakOrder (precedes aims)
precedes_weak aims = subst IsStrictWeakOrder (λ i x y. sym (precedes_is aims x y) i) (ranks_by (rank_total aims) (λ s. s))

-- none precedes one that comes before it
none_back : (aims : List Aim) (ys : List Entrant) → IsSortedBy (precedes aims) ys → (j i : ℕ) (d : Entrant) → i < j → j < length ys → precedes aims (get_or ys j d) (get_or ys i d) ≡ false
none_back aims ys sorted zero i d below within = absurd (omega arith)
none_back aims ys sorted (suc j) i d below within = by (λ before. none_back aims ys sorted j i d before (omega arith)) (cases_lt i j)
  where
    next : j + 1 ≡ suc j
    next = omega arith

    beside : precedes aims (get_or ys (suc j) d) (get_or ys j d) ≡ false
    beside = subst (λ n. precedes aims (get_or ys n d) (get_or ys j d) ≡ false) next (sorted j d (omega arith) (omega arith))

    by : (i < j → precedes aims (get_or ys j d) (get_or ys i d) ≡ false) → (i < j) ⊎ (j ≤ i) → precedes aims (get_or ys (suc j) d) (get_or ys i d) ≡ false
    by earlier (inl before) = (precedes_weak aims).chain (get_or ys (suc j) d) (get_or ys j d) (get_or ys i d) beside (earlier before)
    by earlier (inr after) = let same : j ≡ i = omega arith in subst (λ n. precedes aims (get_or ys (suc j) d) (get_or ys n d) ≡ false) same beside

each_apart : (x : Entrant) (ys : List Entrant) → list_all (λ y. not (x.place == y.place)) ys ≡ true → AllByRecursion (λ y. (x.place == y.place) ≡ false) ys
each_apart x [] h = tt
each_apart x (y ∷ ys) h = (other (x.place == y.place) (and_left (not (x.place == y.place)) (list_all (λ z. not (x.place == z.place)) ys) h), each_apart x ys (and_right (not (x.place == y.place)) (list_all (λ z. not (x.place == z.place)) ys) h))
  where
    other : (b : Bool) → not b ≡ true → b ≡ false
    other true differs = absurd (cc differs)
    other false differs = refl

own_distinct : (xs : List Entrant) → have_own_places xs ≡ true → IsDistinct (λ x y. x.place == y.place) xs
unfolding IsDistinct
own_distinct [] h = tt
own_distinct (x ∷ xs) h = (
  each_apart x xs (and_left (list_all (λ y. not (x.place == y.place)) xs) (have_own_places xs) h),
  own_distinct xs (and_right (list_all (λ y. not (x.place == y.place)) xs) (have_own_places xs) h),
)

first_precedes : (aims : List Aim) (x : Entrant) (ys : List Entrant) → ((j : ℕ) (d : Entrant) → j < length ys → precedes aims x (get_or ys j d) ≡ true) → list_all (precedes aims x) ys ≡ true
first_precedes aims x [] h = refl
first_precedes aims x (y ∷ ys) h = both (precedes aims x y) (list_all (precedes aims x) ys) (h 0 y (omega arith)) (first_precedes aims x ys (λ j d within. h (suc j) d (omega arith)))

ascends : (aims : List Aim) (ys : List Entrant) → ((i j : ℕ) (d : Entrant) → i < j → j < length ys → precedes aims (get_or ys i d) (get_or ys j d) ≡ true) → ascend aims ys ≡ true
ascends aims [] h = refl
ascends aims (y ∷ ys) h = both (list_all (precedes aims y) ys) (ascend aims ys) (first_precedes aims y ys (λ j d within. h 0 (suc j) d (omega arith) (omega arith)))
    (ascends aims ys (λ i j d before within. h (suc i) (suc j) d (omega arith) (omega arith)))

-- entrants with places of their own that are sorted are ranked
pub sorted_is_ranking : (aims : List Aim) (xs ys : List Entrant) → IsTrue (have_own_places xs) → IsPermutation xs ys → IsSortedBy (precedes aims) ys → ys ≡ ranking aims xs
sorted_is_ranking aims xs ys own same sorted =
    ranking_alone aims xs ys own same
    (ascends aims ys (λ i j d before within. one_precedes aims (get_or ys j d) (get_or ys i d) (apart i j d before within) (none_back aims ys sorted j i d before within)))
  where
    flips : (x y : Entrant) → (x.place == y.place) ≡ (y.place == x.place)
    flips x y = grind (arith, nat_tests)

    distinct : IsDistinct (λ x y. x.place == y.place) ys
    distinct = IsDistinct-IsPermutation (λ x y. x.place == y.place) flips xs ys same (own_distinct xs own)

    apart : (i j : ℕ) (d : Entrant) → i < j → j < length ys → (get_or ys j d).place ≡ (get_or ys i d).place → ⊥
    apart i j d before within e =
        clash ((get_or ys i d).place == (get_or ys j d).place) (eq-eqb (get_or ys i d).place (get_or ys j d).place (sym e)) (apart_from_distinct (λ x y. x.place == y.place) ys i j d distinct before within)
