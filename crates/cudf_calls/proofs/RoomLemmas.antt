-- A text over the front of a buffer, and how it grows.
use Rattle.std.proofs.Common.{◌≡◌, ◌+◌, ◌-◌, ◌<◌, ◌≤◌, ◌++◌, ◌⊎◌, inl, inr, ℕ, suc, List, [], ◌∷◌, length, take, drop, min, refl, sym, ap, subst, ◌∙◌, append-nil, append_assoc, arith, length-append, length-drop}
use Rattle.std.proofs.lemmas.Bool.{cases_lt}
use Rattle.std.proofs.lemmas.List.{take_all, take_at, drop_all, drop_at, take_rest}
use borrow.Rule.Slice.PartMut.{put_mid}
use Rattle.cudf_calls.specs.Working.Rooms.{IsFilled, over}

-- ---- one text

pub over-none : (room : List ℕ) → over room [] ≡ room
over-none [] = refl
over-none (old ∷ room) = refl

pub length-over : (room text : List ℕ) → length (over room text) ≡ length room
length-over [] text = refl
length-over (old ∷ room) [] = refl
length-over (old ∷ room) (byte ∷ text) = ap suc (length-over room text)

-- its front, and after it what was there
pub over-is : (room text : List ℕ) → over room text ≡ take (length room) text ++ drop (length text) room
over-is [] text = sym (drop_all (length text) [] (omega arith))
over-is (old ∷ room) [] = refl
over-is (old ∷ room) (byte ∷ text) = ap (λ rest. byte ∷ rest) (over-is room text)

-- it was copied to the end of a slice
pub at_end : (room : List ℕ) (at : ℕ) (text part : List ℕ) → at < length room
    → part ≡ take (length (take (length room - at) (drop at room))) text ++ drop (length text) (take (length room - at) (drop at room))
    → put_mid at (length room - at) room part ≡ take at room ++ over (drop at room) text
at_end room at text part inside is =
    let shown : part ≡ over (take (length room - at) (drop at room)) text = is ∙ sym (over-is (take (length room - at) (drop at room)) text) in
    rw (shown, take_rest room at, drop_all (length room - at) (drop at room) (omega (arith, inside, length-drop at room))) (rw (append-nil (over (drop at room) text)) refl)

-- ---- one text after another

-- a buffer that is full shows no more
full : (room text more : List ℕ) → length room ≤ length text → over room (text ++ more) ≡ over room text
full [] text more enough = refl
full (old ∷ room) [] more enough = absurd (omega (arith, enough))
full (old ∷ room) (byte ∷ text) more enough = ap (λ rest. byte ∷ rest) (full room text more (omega (arith, enough)))

behind : (room text more : List ℕ) → take (length text) (over room text) ++ over (drop (length text) (over room text)) more ≡ over room (text ++ more)
behind [] text more =
    let none : take (length text) (over [] text) ≡ [] = take_all (length text) [] (omega arith) in
    let left : drop (length text) (over [] text) ≡ [] = drop_all (length text) [] (omega arith) in
    rw (none, left) refl
behind (old ∷ room) [] more = refl
behind (old ∷ room) (byte ∷ text) more = ap (λ rest. byte ∷ rest) (behind room text more)

past : (shown more : List ℕ) (at : ℕ) → length shown ≤ at → take at shown ++ over (drop at shown) more ≡ shown
past shown more at beyond = rw (take_all at shown beyond, drop_all at shown beyond) (append-nil shown)

-- the place is the length of the text so far, or one that no buffer has
next : (most : ℕ) (room text more : List ℕ) → length room ≤ most
    → take (min (length text) most) (over room text) ++ over (drop (min (length text) most) (over room text)) more ≡ over room (text ++ more)
next most room text more few = go (cases_lt most (length text))
  where
    go : (most < length text) ⊎ (length text ≤ most)
        → take (min (length text) most) (over room text) ++ over (drop (min (length text) most) (over room text)) more ≡ over room (text ++ more)
    go (inl long) =
        past (over room text) more (min (length text) most) (omega (arith, long, few, length-over room text))
        ∙ sym (full room text more (omega (arith, long, few)))
    go (inr short) = let same : min (length text) most ≡ length text = omega (arith, short) in rw same (behind room text more)

-- a write keeps what a front says of its buffer
pub written : (room before report bytes : List ℕ) (counted : ℕ) (room' report' : List ℕ) (counted' : ℕ)
    → IsFilled room counted before report → length room ≤ 18446744073709551615 → room' ≡ take counted room ++ over (drop counted room) bytes
    → counted' ≡ min (counted + length bytes) 18446744073709551615 → report' ≡ report ++ bytes → IsFilled room' counted' before report'
written room before report bytes counted room' report' counted' is few put add more = record {
  shows = put ∙ rw (is.shows, is.counts, more)
      (next 18446744073709551615 before report bytes (subst (λ n. n ≤ 18446744073709551615) (ap length is.shows ∙ length-over before report) few));
  counts = rw (more, add, is.counts, length-append report bytes) (omega arith);
}

-- ---- what a front has taken, after the name of the buffer's reference and what the buffer held before

first : List ℕ → ℕ
first [] = 0
first (x ∷ xs) = x

rest : List ℕ → List ℕ
rest [] = []
rest (x ∷ xs) = xs

-- two lists that were joined, by the length of the first
apart : (xs ys xs' ys' : List ℕ) → length xs' ≡ length xs → xs' ++ ys' ≡ xs ++ ys → (xs' ≡ xs) × (ys' ≡ ys)
apart xs ys xs' ys' long same = (
  sym (take_at xs' ys' (length xs) long) ∙ ap (take (length xs)) same ∙ take_at xs ys (length xs) refl,
  sym (drop_at xs' ys' (length xs) long) ∙ ap (drop (length xs)) same ∙ drop_at xs ys (length xs) refl,
)

pub taken : (name : ℕ) (before report : List ℕ) (name' : ℕ) (before' report' text : List ℕ)
    → name' ∷ (length before' ∷ (before' ++ report')) ≡ name ∷ (length before ∷ (before ++ report ++ text))
    → (name' ≡ name) × (before' ≡ before) × (report' ≡ report ++ text)
unfolding first rest
taken name before report name' before' report' text same =
    let all : length before' ∷ (before' ++ report') ≡ length before ∷ (before ++ report ++ text) = ap rest same in
    let parts : (before' ≡ before) × (report' ≡ report ++ text) =
    apart before (report ++ text) before' report' (ap first all) (ap rest all ∙ append_assoc before report text) in
    (ap first same, parts.0, parts.1)

-- the same where nothing was taken
pub untaken : (name : ℕ) (before report : List ℕ) (name' : ℕ) (before' report' : List ℕ)
    → name' ∷ (length before' ∷ (before' ++ report')) ≡ name ∷ (length before ∷ (before ++ report))
    → (name' ≡ name) × (before' ≡ before) × (report' ≡ report)
unfolding first rest
untaken name before report name' before' report' same =
    let all : length before' ∷ (before' ++ report') ≡ length before ∷ (before ++ report) = ap rest same in
    let parts : (before' ≡ before) × (report' ≡ report) = apart before report before' report' (ap first all) (ap rest all) in
    (ap first same, parts.0, parts.1)
