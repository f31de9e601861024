-- The reasons are those of the core, each once; the walk's steps are enough.
use Rattle.std.proofs.Common.{◌+◌, ◌⊎◌, inl, inr, ◌≡◌, ◌≢◌, ℕ, ◌<◌, ◌≤◌, zero, suc, Bool, true, false, cond, List, [], ◌∷◌, ◌++◌, length, get_or, filter, Option, Some, None, Contains, refl, sym, ap, ◌∙◌, subst, arith}
use Rattle.std.specs.Prelude.{All, IsTrue, slice_get}
use Rattle.std.specs.List.{flat_map}
use Rattle.std.specs.List.Sorted.{IsPermutation}
use Rattle.std.proofs.lemmas.Bool.{cases_eq, cond-true, cond-false}
use Rattle.std.proofs.lemmas.List.{append-nil, append_assoc, get_or_default, length-append}
use Rattle.std.proofs.lemmas.List.Elements.{All-append, All-contains_itself, All-filter, All-head, All-nil, All-tail, All-weaker}
use Rattle.std.proofs.lemmas.List.Sorted.{IsPermutation-append_right, IsPermutation-cons, IsPermutation-middle, IsPermutation-refl, IsPermutation-trans, length_permutation}
use Rattle.cudf_reasons.specs.Laws.{EachIsToldOnce, IsTold, StepsAreEnough}
use Rattle.cudf_reasons.specs.Reasons.{PlainReason, brings, brought, core_of, is_asked, is_brought_by, is_kept, is_new, roots_of, same_key, told_of, walk, with_brought, with_reason, with_reasons}
use Rattle.cudf_reasons.specs.Working.Tables.{no_reason, reason_at}
use Rattle.cudf_reasons.specs.Working.Walks.{keys_ascend}
use Rattle.cudf_reasons.proofs.GroupLemmas.{core_ascends}
use Rattle.cudf_reasons.proofs.KeyOrderLemmas.{distinct_at}
use Rattle.cudf_reasons.proofs.ListLemmas.{all_places}
use Rattle.cudf_reasons.proofs.WalkLemmas.{all_told, new_as_before, old_with_all, told_itself, with_new, with_old}

abbrev Reasons : Type 0
Reasons = List PlainReason

module _ {X : Type 0} where
  agree : (p q : X → Bool) (xs : List X) (d : X) → ((k : ℕ) → k < length xs → q (get_or xs k d) ≡ p (get_or xs k d)) → filter q xs ≡ filter p xs
  agree p q [] d same = refl
  agree p q (x ∷ xs) d same = by (p x) (q x) (same 0 (omega arith)) (agree p q xs d (λ k h. same (suc k) (omega arith)))
    where
      by : (a b : Bool) → b ≡ a → filter q xs ≡ filter p xs → cond b (x ∷ filter q xs) (filter q xs) ≡ cond a (x ∷ filter p xs) (filter p xs)
      by true true e later = ap (λ (ys : List X). x ∷ ys) later
      by false false e later = later
      by true false e later = absurd (cc e)
      by false true e later = absurd (cc e)

  -- all but one pass as before
  one_less : (p q : X → Bool) (xs : List X) (i : ℕ) (d : X) → i < length xs → p (get_or xs i d) ≡ true → q (get_or xs i d) ≡ false → ((k : ℕ) → k < length xs → k ≢ i → q (get_or xs k d) ≡ p (get_or xs k d))
      → IsPermutation (filter p xs) (get_or xs i d ∷ filter q xs)
  one_less p q [] i d within passes fails same = absurd (omega arith)
  one_less p q (x ∷ xs) zero d within passes fails same =
      let others : filter q xs ≡ filter p xs = agree p q xs d (λ k h. same (suc k) (omega arith) (λ e. omega arith)) in
      let now : filter p (x ∷ xs) ≡ x ∷ filter p xs = cond-true (p x) (x ∷ filter p xs) (filter p xs) passes in
      let then' : filter q (x ∷ xs) ≡ filter p xs = cond-false (q x) (x ∷ filter q xs) (filter q xs) fails ∙ others in
      rw (now, then') (IsPermutation-refl (x ∷ filter p xs))
  one_less p q (x ∷ xs) (suc i) d within passes fails same =
      by (p x) (q x) (same 0 (omega arith) (λ e. omega arith)) (one_less p q xs i d (omega arith) passes fails (λ k h ne. same (suc k) (omega arith) (λ e. ne (omega arith))))
    where
      by : (a b : Bool) → b ≡ a → IsPermutation (filter p xs) (get_or xs i d ∷ filter q xs) → IsPermutation (cond a (x ∷ filter p xs) (filter p xs)) (get_or xs i d ∷ cond b (x ∷ filter q xs) (filter q xs))
      by true true e later =
          IsPermutation-trans (x ∷ filter p xs) (x ∷ get_or xs i d ∷ filter q xs) (get_or xs i d ∷ x ∷ filter q xs) (IsPermutation-cons x (filter p xs) (get_or xs i d ∷ filter q xs) later) (IsPermutation-middle (x ∷ []) (get_or xs i d) (filter q xs))
      by false false e later = later
      by true false e later = absurd (cc e)
      by false true e later = absurd (cc e)

-- those reported, and those that are left
abbrev Whole : Reasons → Reasons → Type 0
Whole core told = IsPermutation core (told ++ filter (is_new told) core)

-- one more is reported
whole_more : (core told : Reasons) (r : PlainReason) → IsTrue (keys_ascend core) → Contains core r → is_new told r ≡ true → Whole core told → Whole core (told ++ r ∷ [])
whole_more core told r up there new whole =
    let i : ℕ = there.0 in
    let here : reason_at core i ≡ r = get_or_default core i no_reason r there.1 ∙ there.2 in
    let less : IsPermutation (filter (is_new told) core) (reason_at core i ∷ filter (is_new (told ++ r ∷ [])) core) =
    one_less (is_new told) (is_new (told ++ r ∷ [])) core i no_reason there.1 (ap (is_new told) here ∙ new) (ap (is_new (told ++ r ∷ [])) here ∙ told_itself told r)
    (λ k h other. new_as_before told r (reason_at core k) (ap (λ (x : PlainReason). same_key x.key (reason_at core k).key) (sym here) ∙ distinct_at core i k up there.1 h (λ e. other (sym e)))) in
    let less' : IsPermutation (filter (is_new told) core) (r ∷ filter (is_new (told ++ r ∷ [])) core) = subst (λ (x : PlainReason). IsPermutation (filter (is_new told) core) (x ∷ filter (is_new (told ++ r ∷ [])) core)) here less in
    subst (IsPermutation core) (sym (append_assoc told (r ∷ []) (filter (is_new (told ++ r ∷ [])) core)))
    (IsPermutation-trans core (told ++ filter (is_new told) core) (told ++ r ∷ filter (is_new (told ++ r ∷ [])) core) whole (IsPermutation-append_right told (filter (is_new told) core) (r ∷ filter (is_new (told ++ r ∷ [])) core) less'))

brings_core : (core : Reasons) (named : List ℕ) → All (Contains core) (flat_map (brought core) named)
brings_core core [] = All-nil (Contains core)
brings_core core (place ∷ places) = All-append (Contains core) (brought core place) (flat_map (brought core) places) (All-filter (is_brought_by place) (Contains core) core (All-contains_itself core)) (brings_core core places)

whole_with : (core told : Reasons) (r : PlainReason) → IsTrue (keys_ascend core) → Contains core r → Whole core told → Whole core (with_reason told r)
whole_with core told r up there whole = by (is_new told r) refl
  where
    by : (b : Bool) → is_new told r ≡ b → Whole core (with_reason told r)
    by true new = subst (Whole core) (sym (with_new told r new)) (whole_more core told r up there new whole)
    by false old = subst (Whole core) (sym (with_old told r old)) whole

whole_with_all : (core told xs : Reasons) → IsTrue (keys_ascend core) → All (Contains core) xs → Whole core told → Whole core (with_reasons told xs)
whole_with_all core told [] up there whole = whole
whole_with_all core told (x ∷ xs) up there whole =
    whole_with_all core (with_reason told x) xs up (All-tail (Contains core) x xs there) (whole_with core told x up (All-head (Contains core) x xs there) whole)

walk_whole : (n : ℕ) (core : Reasons) (index : ℕ) (told : Reasons) → IsTrue (keys_ascend core) → Whole core told → Whole core (walk n core index told)
walk_whole zero core index told up whole = whole
walk_whole (suc n) core index told up whole = walk_whole n core (index + 1) (with_brought core told (slice_get told index)) up (by (slice_get told index))
  where
    by : (next : Option PlainReason) → Whole core (with_brought core told next)
    by None = whole
    by (Some r) = whole_with_all core told (brings core r) up (brings_core core r.named) whole

all_new : (core : Reasons) → filter (is_new []) core ≡ core
all_new [] = refl
all_new (r ∷ core) = ap (λ (rs : Reasons). r ∷ rs) (all_new core)

roots_core : (core : Reasons) → All (Contains core) (roots_of core)
roots_core core = All-append (Contains core) (filter is_asked core) (filter is_kept core) (All-filter is_asked (Contains core) core (All-contains_itself core)) (All-filter is_kept (Contains core) core (All-contains_itself core))

told_whole : (core : Reasons) → IsTrue (keys_ascend core) → Whole core (told_of core)
told_whole core up =
    walk_whole (length core) core 0 (with_reasons [] (roots_of core)) up
    (whole_with_all core [] (roots_of core) up (roots_core core) (subst (IsPermutation core) (sym (all_new core)) (IsPermutation-refl core)))

nothing_left : (p : PlainReason → Bool) (xs : Reasons) → All (λ x. p x ≡ false) xs → filter p xs ≡ []
nothing_left p [] none = refl
nothing_left p (x ∷ xs) none =
    cond-false (p x) (x ∷ filter p xs) (filter p xs) (All-head (λ y. p y ≡ false) x xs none) ∙ nothing_left p xs (All-tail (λ y. p y ≡ false) x xs none)

pub each_told_once : EachIsToldOnce
each_told_once needed up =
    let core : Reasons = core_of needed in
    let ascends = core_ascends needed up in
    let all : Reasons = with_reasons (told_of core) core in
    subst (IsPermutation core) (ap (λ (left : Reasons). all ++ left) (nothing_left (is_new all) core (all_told (told_of core) core)) ∙ append-nil all)
    (whole_with_all core (told_of core) core ascends (All-contains_itself core) (told_whole core ascends))

-- ---- the steps are enough

-- what comes after those that were reported
abbrev More : Reasons → Reasons → Type 0
More told now = (more : Reasons) × (now ≡ told ++ more)

more_with : (told xs : Reasons) → More told (with_reasons told xs)
more_with told [] = ([], sym (append-nil told))
more_with told (x ∷ xs) = by (is_new told x) refl (λ t. more_with t xs)
  where
    by : (b : Bool) → is_new told x ≡ b → ((t : Reasons) → More t (with_reasons t xs)) → More told (with_reasons (with_reason told x) xs)
    by true new more =
        let later = more (told ++ x ∷ []) in
        (x ∷ later.0, ap (λ t. with_reasons t xs) (with_new told x new) ∙ later.1 ∙ append_assoc told (x ∷ []) later.0)
    by false old more =
        let later = more told in
        (later.0, ap (λ t. with_reasons t xs) (with_old told x old) ∙ later.1)

more_brought : (core told : Reasons) (next : Option PlainReason) → More told (with_brought core told next)
more_brought core told None = ([], sym (append-nil told))
more_brought core told (Some r) = more_with told (brings core r)

walk_more : (n : ℕ) (core : Reasons) (index : ℕ) (told : Reasons) → More told (walk n core index told)
walk_more zero core index told = ([], sym (append-nil told))
walk_more (suc n) core index told =
    let first = more_brought core told (slice_get told index) in
    let later = walk_more n core (index + 1) (with_brought core told (slice_get told index)) in
    (first.0 ++ later.0, later.1 ∙ ap (λ (t : Reasons). t ++ later.0) first.1 ∙ append_assoc told first.0 later.0)

walk_old : (n : ℕ) (core : Reasons) (index : ℕ) (told : Reasons) (r : PlainReason) → IsTold told r → IsTold (walk n core index told) r
walk_old zero core index told r old = old
walk_old (suc n) core index told r old = walk_old n core (index + 1) (with_brought core told (slice_get told index)) r (by (slice_get told index))
  where
    by : (next : Option PlainReason) → IsTold (with_brought core told next) r
    by None = old
    by (Some t) = old_with_all told (brings core t) r old

-- nothing more comes once the walk is past the last one
pub get_past : (xs : Reasons) (i : ℕ) → length xs ≤ i → slice_get xs i ≡ None
get_past [] i past = refl
get_past (x ∷ xs) zero past = absurd (omega arith)
get_past (x ∷ xs) (suc i) past = get_past xs i (omega arith)

get_here : (xs more : Reasons) (i : ℕ) (r : PlainReason) → slice_get xs i ≡ Some r → get_or (xs ++ more) i no_reason ≡ r
get_here [] more i r is = absurd (cc is)
get_here (x ∷ xs) more zero r is = cc
get_here (x ∷ xs) more (suc i) r is = get_here xs more i r is

get_none : (xs : Reasons) (i : ℕ) → slice_get xs i ≡ None → length xs ≤ i
get_none [] i none = omega arith
get_none (x ∷ xs) zero none = absurd (cc none)
get_none (x ∷ xs) (suc i) none = omega (arith, get_none xs i none)

walk_past : (n : ℕ) (core : Reasons) (index : ℕ) (told : Reasons) → length told ≤ index → walk n core index told ≡ told
walk_past zero core index told past = refl
walk_past (suc n) core index told past = ap (λ next. walk n core (index + 1) (with_brought core told next)) (get_past told index past) ∙ walk_past n core (index + 1) told (omega arith)

-- what each one brings in is reported
walk_brings : (n : ℕ) (core : Reasons) (index : ℕ) (told : Reasons) (i : ℕ) → index ≤ i → i < index + n → i < length (walk n core index told)
    → All (IsTold (walk n core index told)) (brings core (get_or (walk n core index told) i no_reason))
walk_brings zero core index told i from upto within = absurd (omega arith)
walk_brings (suc n) core index told i from upto within = by (cases_eq i index) (λ behind. walk_brings n core (index + 1) (with_brought core told (slice_get told index)) i behind (omega arith) within)
  where
    here : (next : Option PlainReason) → slice_get told index ≡ next → i ≡ index → All (IsTold (walk (suc n) core index told)) (brings core (get_or (walk (suc n) core index told) i no_reason))
    here None none same =
        let past : length told ≤ index = get_none told index none in
        absurd (omega (arith, ap length (walk_past (suc n) core index told past)))
    here (Some r) found same =
        let after : Reasons = with_brought core told (slice_get told index) in
        let now : Reasons = walk n core (index + 1) after in
        let more = walk_more (suc n) core index told in
        let is : get_or now i no_reason ≡ r = ap (λ t. get_or t i no_reason) more.1 ∙ ap (λ k. get_or (told ++ more.0) k no_reason) same ∙ get_here told more.0 index r found in
        let brought : All (IsTold after) (brings core r) = subst (λ next. All (IsTold (with_brought core told next)) (brings core r)) (sym found) (all_told told (brings core r)) in
        subst (λ (x : PlainReason). All (IsTold now) (brings core x)) (sym is)
        (All-weaker (IsTold after) (IsTold now) (λ b old. walk_old n core (index + 1) after b old) (brings core r) brought)

    by : (i ≡ index) ⊎ (i ≢ index) → (index + 1 ≤ i → All (IsTold (walk (suc n) core index told)) (brings core (get_or (walk (suc n) core index told) i no_reason)))
        → All (IsTold (walk (suc n) core index told)) (brings core (get_or (walk (suc n) core index told) i no_reason))
    by (inl same) later = here (slice_get told index) refl same
    by (inr other) later = later (omega arith)

pub steps_are_enough : StepsAreEnough
steps_are_enough needed up =
    let core : Reasons = core_of needed in
    let roots : Reasons = with_reasons [] (roots_of core) in
    let told : Reasons = told_of core in
    let short : length told ≤ length core =
    omega (arith, length_permutation core (told ++ filter (is_new told) core) (told_whole core (core_ascends needed up)), length-append told (filter (is_new told) core)) in
    record {
      roots = All-weaker (IsTold roots) (IsTold told) (λ r old. walk_old (length core) core 0 roots r old) (roots_of core) (all_told [] (roots_of core));
      brought = all_places (λ r. All (IsTold told) (brings core r)) told no_reason (λ i within. walk_brings (length core) core 0 roots i (omega arith) (omega arith) within);
    }
