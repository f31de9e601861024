-- Readers in a row, read one after another.
use Rattle.std.proofs.Common.{◌≡◌, ◌↔◌, inl, inr, ℕ, zero, suc, ◌+◌, ◌<◌, ◌≤◌, List, [], ◌∷◌, ◌++◌, length, map, get_or, set, take, drop, Result, Ok, Err, IsErr, IsErrAnd, IsErrOf, refl, sym, ap, ◌∙◌, subst, arith}
use Rattle.std.specs.List.{All, AllZip}
use Rattle.std.proofs.lemmas.List.Elements.{All-nil, All-cons}
use Rattle.cudf_device.specs.declared.outcome.RunError.{RunError}
use Rattle.cudf_device.specs.declared.outcome.RunError.TheVariants.{Read, TooLong, Write, Memory}
use Rattle.cudf_device.specs.Device.{SourceState, failed_reads, ended_reads}
use Rattle.cudf_device.specs.Readers.{LeavesBehind, Change, change, ReadsAll, IsUnfinished, IsTooLong, IsStopped, StopsInTime, OfOne, changes, names_in}
use Rattle.cudf_device.specs.Promises.InTurn.{ReadsInTurn}
use Rattle.cudf_device.proofs.CallLemmas.{none_more}
use Rattle.cudf_device.proofs.CommonLemmas.{same_error}

-- the reading was ended, and went well
pub record WasRead (reader : Change SourceState) (bytes : List ℕ) : Type 0 where
  pub all : ReadsAll reader bytes
  pub finished : IsUnfinished reader → ⊥
  pub short : IsTooLong reader → ⊥
  pub calls : StopsInTime reader

-- what holds of no reader that was read, nor of one that wasn't called
pub record IsFailure {D : Type 0} (state : D → SourceState) (Q : Change SourceState → Type 0) : Type 0 where
  pub not_read : (reader : Change SourceState) (bytes : List ℕ) → WasRead reader bytes → Q reader → ⊥
  pub not_still : (x : D) → Q (change state x x) → ⊥

pub unfinished_fails : {D : Type 0} (state : D → SourceState) → IsFailure state IsUnfinished
unfinished_fails state = record {
  not_read = λ reader bytes w h. w.finished h;
  not_still = λ x h. still (state x) h;
}
  where
    still : (s : SourceState) → IsUnfinished (record { before = s; after = s }) → ⊥
    still s (inl below) = omega arith
    still s (inr h) = let e : s.calls ≡ s.calls + 536870912 = h.0 in omega arith

pub too_long_fails : {D : Type 0} (state : D → SourceState) → IsFailure state IsTooLong
too_long_fails state = record {
  not_read = λ reader bytes w h. w.short h;
  not_still = λ x h. still (state x) h;
}
  where
    still : (s : SourceState) → IsTooLong (record { before = s; after = s }) → ⊥
    still s h = let below : s.given + 268435456 < s.given = h in omega arith

-- a reader that wasn't called
pub still_in_time : (s : SourceState) → StopsInTime (record { before = s; after = s })
still_in_time s = record {
  turns = omega arith;
  failed = none_more failed_reads s.failures s.last;
  ended = none_more ended_reads s.ends s.last;
  given = λ h. absurd (not_too_long h);
}
  where
    not_too_long : s.given + 268435456 < s.given → ⊥
    not_too_long h = omega arith

-- the same of each of several
pub each_still : {D : Type 0} (state : D → SourceState) (xs : List D) → All StopsInTime (changes state xs xs)
each_still state [] = All-nil StopsInTime
each_still state (x ∷ xs) = All-cons StopsInTime (change state x x) (changes state xs xs) (still_in_time (state x)) (each_still state xs)

-- the first readers were read, and the others are as they were lent
pub record ReadSoFar {D : Type 0} (state : D → SourceState) (olds news : List D) (n : ℕ) (texts : List (List ℕ)) : Type 0 where
  pub texts_are : AllZip WasRead (changes state (take n olds) (take n news)) texts
  pub rest : drop n news ≡ drop n olds
  pub same_length : length news ≡ length olds

pub so_far_none : {D : Type 0} (state : D → SourceState) (olds : List D) → ReadSoFar state olds olds 0 []
so_far_none state olds = record { texts_are = tt; rest = refl; same_length = refl }

-- ---- one more

-- the reader at the turn is as it was lent
still_lent : {D : Type 0} (n : ℕ) (olds news : List D) (d : D) → n < length olds → length news ≡ length olds → drop n news ≡ drop n olds → get_or news n d ≡ get_or olds n d
still_lent n [] news d below same is = absurd (omega arith)
still_lent n (old ∷ olds) [] d below same is = absurd (omega arith)
still_lent zero (old ∷ olds) (new ∷ news) d below same is = cc
still_lent (suc n) (old ∷ olds) (new ∷ news) d below same is = still_lent n olds news d (omega arith) (omega arith) is

texts_more : {D : Type 0} (state : D → SourceState) (n : ℕ) (olds news : List D) (texts : List (List ℕ)) (x d : D) (bytes : List ℕ)
    → n < length olds → length news ≡ length olds → AllZip WasRead (changes state (take n olds) (take n news)) texts
    → WasRead (change state (get_or olds n d) x) bytes
    → AllZip WasRead (changes state (take (suc n) olds) (take (suc n) (set news n x))) (texts ++ bytes ∷ [])
texts_more state n [] news texts x d bytes below same m w = absurd (omega arith)
texts_more state n (old ∷ olds) [] texts x d bytes below same m w = absurd (omega arith)
texts_more state zero (old ∷ olds) (new ∷ news) [] x d bytes below same m w = (w, tt)
texts_more state zero (old ∷ olds) (new ∷ news) (t ∷ texts) x d bytes below same m w = absurd m
texts_more state (suc n) (old ∷ olds) (new ∷ news) [] x d bytes below same m w = absurd m
texts_more state (suc n) (old ∷ olds) (new ∷ news) (t ∷ texts) x d bytes below same m w =
    (m.0, texts_more state n olds news texts x d bytes (omega arith) (omega arith) m.1 w)

-- one reader more was read
pub so_far_more : {D : Type 0} (state : D → SourceState) (n : ℕ) (olds news : List D) (texts : List (List ℕ)) (x d : D) (bytes : List ℕ)
    → n < length news → ReadSoFar state olds news n texts → WasRead (change state (get_or news n d) x) bytes
    → ReadSoFar state olds (set news n x) (n + 1) (texts ++ bytes ∷ [])
so_far_more state n olds news texts x d bytes below m w =
    let next : n + 1 ≡ suc n = omega arith in
    let same : length news ≡ length olds = m.same_length in
    let old_below : n < length olds = omega arith in
    rw next (record {
      texts_are = texts_more state n olds news texts x d bytes old_below same m.texts_are
          (subst (λ y. WasRead (change state y x) bytes) (still_lent n olds news d old_below same m.rest) w);
      rest = rest_more n olds news x old_below same m.rest;
      same_length = length_set news n x ∙ same;
    })
  where
    rest_more : {D : Type 0} (n : ℕ) (olds news : List D) (x : D) → n < length olds → length news ≡ length olds → drop n news ≡ drop n olds
        → drop (suc n) (set news n x) ≡ drop (suc n) olds
    rest_more n [] news x below same is = absurd (omega arith)
    rest_more n (old ∷ olds) [] x below same is = absurd (omega arith)
    rest_more zero (old ∷ olds) (new ∷ news) x below same is = cc
    rest_more (suc n) (old ∷ olds) (new ∷ news) x below same is = rest_more n olds news x (omega arith) (omega arith) is

    length_set : {D : Type 0} (xs : List D) (n : ℕ) (x : D) → length (set xs n x) ≡ length xs
    length_set [] n x = refl
    length_set (y ∷ xs) zero x = refl
    length_set (y ∷ xs) (suc n) x = ap suc (length_set xs n x)

-- ---- nothing stopped the reading

pub none_still : {D : Type 0} (state : D → SourceState) (Q : Change SourceState → Type 0) → IsFailure state Q → (xs : List D) → OfOne Q (changes state xs xs) → ⊥
none_still state Q f [] h = absurd h
none_still state Q f (x ∷ xs) (inl q) = f.not_still x q
none_still state Q f (x ∷ xs) (inr h) = none_still state Q f xs h

none_stopped : {D : Type 0} (state : D → SourceState) (Q : Change SourceState → Type 0) → IsFailure state Q → (n : ℕ) (olds news : List D) (texts : List (List ℕ))
    → AllZip WasRead (changes state (take n olds) (take n news)) texts → drop n news ≡ drop n olds → OfOne Q (changes state olds news) → ⊥
none_stopped state Q f zero olds news texts m is h = none_still state Q f olds (subst (λ xs. OfOne Q (changes state olds xs)) is h)
none_stopped state Q f (suc n) [] news texts m is h = absurd h
none_stopped state Q f (suc n) (old ∷ olds) [] texts m is h = absurd h
none_stopped state Q f (suc n) (old ∷ olds) (new ∷ news) [] m is h = absurd m
none_stopped state Q f (suc n) (old ∷ olds) (new ∷ news) (t ∷ texts) m is (inl q) = f.not_read (change state old new) t m.0 q
none_stopped state Q f (suc n) (old ∷ olds) (new ∷ news) (t ∷ texts) m is (inr h) = none_stopped state Q f n olds news texts m.1 is h

-- each was called no longer than it had to be, where the first ones were read and the others weren't called
each_in_time : {D : Type 0} (state : D → SourceState) (n : ℕ) (olds news : List D) (texts : List (List ℕ))
    → AllZip WasRead (changes state (take n olds) (take n news)) texts → drop n news ≡ drop n olds → All StopsInTime (changes state olds news)
each_in_time state zero olds news texts m is = subst (λ xs. All StopsInTime (changes state olds xs)) (sym is) (each_still state olds)
each_in_time state (suc n) [] news texts m is = All-nil StopsInTime
each_in_time state (suc n) (old ∷ olds) [] texts m is = All-nil StopsInTime
each_in_time state (suc n) (old ∷ olds) (new ∷ news) [] m is = absurd m
each_in_time state (suc n) (old ∷ olds) (new ∷ news) (t ∷ texts) m is =
    All-cons StopsInTime (change state old new) (changes state olds news) m.0.calls (each_in_time state n olds news texts m.1 is)

all_read : (readers : List (Change SourceState)) (texts : List (List ℕ)) → AllZip WasRead readers texts → AllZip ReadsAll readers texts
all_read [] [] m = tt
all_read [] (t ∷ texts) m = absurd m
all_read (r ∷ readers) [] m = absurd m
all_read (r ∷ readers) (t ∷ texts) m = (m.0.all, all_read readers texts m.1)

-- the reading of a reader that was read didn't end in an error
pub read_on : (r : Change SourceState) (t : List ℕ) → WasRead r t → IsStopped r → ⊥
read_on r t w (inl h) = w.finished h
read_on r t w (inr (inl h)) = w.short h
read_on r t w (inr (inr h)) = omega (arith, h, w.all.ended)

pub behind_still : {D : Type 0} (state : D → SourceState) (xs : List D) → LeavesBehind (λ old new. IsStopped (change state old new)) xs xs
behind_still state [] = tt
behind_still state (x ∷ xs) = ((λ h. refl), behind_still state xs)

nothing_left : {D : Type 0} (state : D → SourceState) (n : ℕ) (olds news : List D) (texts : List (List ℕ))
    → AllZip WasRead (changes state (take n olds) (take n news)) texts → drop n news ≡ drop n olds → length news ≡ length olds
    → LeavesBehind (λ old new. IsStopped (change state old new)) olds news
nothing_left state zero olds news texts m is same = subst (λ xs. LeavesBehind (λ old new. IsStopped (change state old new)) olds xs) (sym is) (behind_still state olds)
nothing_left state (suc n) [] [] texts m is same = tt
nothing_left state (suc n) [] (new ∷ news) texts m is same = absurd (omega (arith, same))
nothing_left state (suc n) (old ∷ olds) [] texts m is same = absurd (omega (arith, same))
nothing_left state (suc n) (old ∷ olds) (new ∷ news) [] m is same = absurd m
nothing_left state (suc n) (old ∷ olds) (new ∷ news) (t ∷ texts) m is same =
    ((λ h. absurd (read_on (change state old new) t m.0 h)), nothing_left state n olds news texts m.1 is (omega arith))

-- all readers were read
pub read_to_the_end : {D T : Type 0} (state : D → SourceState) (n : ℕ) (olds news : List D) (texts : T → List (List ℕ)) (v : T)
    → length news ≤ n → ReadSoFar state olds news n (texts v) → ReadsInTurn state olds news texts (Ok v)
read_to_the_end state n olds news texts v end m =
    let old_end : length olds ≤ n = omega (arith, m.same_length) in
    let all : AllZip WasRead (changes state olds news) (texts v)
    = subst (λ xs. AllZip WasRead (changes state xs news) (texts v)) (take-all olds n old_end)
    (subst (λ xs. AllZip WasRead (changes state (take n olds) xs) (texts v)) (take-all news n end) m.texts_are) in
    record {
      all = all_read (changes state olds news) (texts v) all;
      too_long = (λ e. absurd (cc e), λ h. absurd (none_stopped state IsTooLong (too_long_fails state) n olds news (texts v) m.texts_are m.rest h));
      read = (λ e. absurd (cc e), λ h. absurd (none_stopped state IsUnfinished (unfinished_fails state) n olds news (texts v) m.texts_are m.rest h));
      calls = each_in_time state n olds news (texts v) m.texts_are m.rest;
      behind = nothing_left state n olds news (texts v) m.texts_are m.rest m.same_length;
      no_write = λ e. absurd (cc e);
    }
  where
    take-all : {D : Type 0} (xs : List D) (n : ℕ) → length xs ≤ n → take n xs ≡ xs
    take-all [] zero h = refl
    take-all [] (suc n) h = refl
    take-all (x ∷ xs) zero h = absurd (omega arith)
    take-all (x ∷ xs) (suc n) h = ap (λ ys. x ∷ ys) (take-all xs n (omega arith))

-- memory ran out after a reader
pub no_room_left : {D T : Type 0} (state : D → SourceState) (n : ℕ) (olds news : List D) (read : List (List ℕ)) (texts : T → List (List ℕ))
    → ReadSoFar state olds news n read → ReadsInTurn state olds news texts (Err Memory)
no_room_left state n olds news read texts m = record {
  all = tt;
  too_long = (λ e. absurd (cc e), λ h. absurd (none_stopped state IsTooLong (too_long_fails state) n olds news read m.texts_are m.rest h));
  read = (λ e. absurd (cc e), λ h. absurd (none_stopped state IsUnfinished (unfinished_fails state) n olds news read m.texts_are m.rest h));
  calls = each_in_time state n olds news read m.texts_are m.rest;
  behind = nothing_left state n olds news read m.texts_are m.rest m.same_length;
  no_write = λ e. absurd (cc e);
}

-- ---- a reader stopped the reading

one_of : {D : Type 0} (state : D → SourceState) (Q : Change SourceState → Type 0) → IsFailure state Q → (n : ℕ) (olds news : List D) (texts : List (List ℕ)) (x d : D)
    → n < length olds → length news ≡ length olds → AllZip WasRead (changes state (take n olds) (take n news)) texts → drop n news ≡ drop n olds
    → OfOne Q (changes state olds (set news n x)) ↔ Q (change state (get_or news n d) x)
one_of state Q f n [] news texts x d below same m is = absurd (omega arith)
one_of state Q f n (old ∷ olds) [] texts x d below same m is = absurd (omega arith)
one_of state Q f zero (old ∷ olds) (new ∷ news) texts x d below same m is =
    let first : new ≡ old = cc in
    let rest : news ≡ olds = cc in
    (there first rest, λ q. inl (subst (λ y. Q (change state y x)) first q))
  where
    there : new ≡ old → news ≡ olds → OfOne Q (changes state (old ∷ olds) (x ∷ news)) → Q (change state new x)
    there first rest (inl q) = subst (λ y. Q (change state y x)) (sym first) q
    there first rest (inr h) = absurd (none_still state Q f olds (subst (λ xs. OfOne Q (changes state olds xs)) rest h))
one_of state Q f (suc n) (old ∷ olds) (new ∷ news) [] x d below same m is = absurd m
one_of state Q f (suc n) (old ∷ olds) (new ∷ news) (t ∷ texts) x d below same m is =
    let more = one_of state Q f n olds news texts x d (omega arith) (omega arith) m.1 is in
    (there more, λ q. inr (more.1 q))
  where
    there : (OfOne Q (changes state olds (set news n x)) ↔ Q (change state (get_or news n d) x))
        → OfOne Q (changes state (old ∷ olds) (new ∷ set news n x)) → Q (change state (get_or news n d) x)
    there more (inl q) = absurd (f.not_read (change state old new) t m.0 q)
    there more (inr h) = more.0 h

left_behind : {D : Type 0} (state : D → SourceState) (n : ℕ) (olds news : List D) (texts : List (List ℕ)) (x : D)
    → n < length olds → length news ≡ length olds → AllZip WasRead (changes state (take n olds) (take n news)) texts → drop n news ≡ drop n olds
    → LeavesBehind (λ old new. IsStopped (change state old new)) olds (set news n x)
left_behind state n [] news texts x below same m is = absurd (omega arith)
left_behind state n (old ∷ olds) [] texts x below same m is = absurd (omega arith)
left_behind state zero (old ∷ olds) (new ∷ news) texts x below same m is =
    let rest : news ≡ olds = cc in
    ((λ h. rest), subst (λ xs. LeavesBehind (λ old new. IsStopped (change state old new)) olds xs) (sym rest) (behind_still state olds))
left_behind state (suc n) (old ∷ olds) (new ∷ news) [] x below same m is = absurd m
left_behind state (suc n) (old ∷ olds) (new ∷ news) (t ∷ texts) x below same m is =
    ((λ h. absurd (read_on (change state old new) t m.0 h)), left_behind state n olds news texts x (omega arith) (omega arith) m.1 is)

-- the same, where the reading of one more ended in an error
all_in_time : {D : Type 0} (state : D → SourceState) (n : ℕ) (olds news : List D) (texts : List (List ℕ)) (x d : D)
    → n < length olds → length news ≡ length olds → AllZip WasRead (changes state (take n olds) (take n news)) texts → drop n news ≡ drop n olds
    → StopsInTime (change state (get_or news n d) x) → All StopsInTime (changes state olds (set news n x))
all_in_time state n [] news texts x d below same m is one = absurd (omega arith)
all_in_time state n (old ∷ olds) [] texts x d below same m is one = absurd (omega arith)
all_in_time state zero (old ∷ olds) (new ∷ news) texts x d below same m is one =
    let first : new ≡ old = cc in
    let rest : news ≡ olds = cc in
    All-cons StopsInTime (change state old x) (changes state olds news) (subst (λ y. StopsInTime (change state y x)) first one)
    (subst (λ xs. All StopsInTime (changes state olds xs)) (sym rest) (each_still state olds))
all_in_time state (suc n) (old ∷ olds) (new ∷ news) [] x d below same m is one = absurd m
all_in_time state (suc n) (old ∷ olds) (new ∷ news) (t ∷ texts) x d below same m is one =
    All-cons StopsInTime (change state old new) (changes state olds (set news n x)) m.0.calls (all_in_time state n olds news texts x d (omega arith) (omega arith) m.1 is one)

-- a reading that ended in an error ends all
pub stopped : {D T U : Type 0} (state : D → SourceState) (n : ℕ) (olds news : List D) (read : List (List ℕ)) (x d : D) (texts : T → List (List ℕ)) (reading : Result U RunError) (e : RunError) (result : Result T RunError)
    → n < length news → ReadSoFar state olds news n read → reading ≡ Err e
    → (IsErrOf reading TooLong ↔ IsTooLong (change state (get_or news n d) x)) → (IsErrOf reading Read ↔ IsUnfinished (change state (get_or news n d) x))
    → StopsInTime (change state (get_or news n d) x) → (reading ≡ Err Write → ⊥) → IsErr result × IsErrAnd result (λ y. y ≡ e)
    → ReadsInTurn state olds (set news n x) texts result
stopped state n olds news read x d texts reading e (Ok v) below m is too_long unfinished in_time no_write same = absurd same.1
stopped state n olds news read x d texts reading e (Err y) below m is too_long unfinished in_time no_write same =
    let below_old : n < length olds = omega (arith, m.same_length) in
    let too_long_one = one_of state IsTooLong (too_long_fails state) n olds news read x d below_old m.same_length m.texts_are m.rest in
    let unfinished_one = one_of state IsUnfinished (unfinished_fails state) n olds news read x d below_old m.same_length m.texts_are m.rest in
    let error : y ≡ e = same.1 in
    record {
      all = tt;
      too_long = (λ h. too_long_one.1 (too_long.0 (is ∙ ap Err (sym error ∙ same_error h))), λ h. ap Err (error ∙ same_error (sym is ∙ too_long.1 (too_long_one.0 h))));
      read = (λ h. unfinished_one.1 (unfinished.0 (is ∙ ap Err (sym error ∙ same_error h))), λ h. ap Err (error ∙ same_error (sym is ∙ unfinished.1 (unfinished_one.0 h))));
      calls = all_in_time state n olds news read x d below_old m.same_length m.texts_are m.rest in_time;
      behind = left_behind state n olds news read x below_old m.same_length m.texts_are m.rest;
      no_write = λ h. no_write (is ∙ ap Err (sym error ∙ same_error h));
    }

-- ---- names

-- a source in place of another of its name
pub names-set : {D : Type 0} (state : D → SourceState) (ds : List D) (i : ℕ) (x d : D) → i < length ds → (state x).name ≡ (state (get_or ds i d)).name
    → names_in state (set ds i x) ≡ names_in state ds
names-set state [] i x d below same = refl
names-set state (y ∷ ds) zero x d below same = ap (λ name. name ∷ names_in state ds) same
names-set state (y ∷ ds) (suc i) x d below same = ap (λ names. (state y).name ∷ names) (names-set state ds i x d (omega arith) same)

-- the names that sources had before, of as many as there are now
pub names-before : {D : Type 0} (state : D → SourceState) (olds news : List D) (P : Change SourceState → List ℕ → Type 0) (texts : List (List ℕ))
    → AllZip P (changes state olds news) texts → length news ≡ length olds → map (λ r. r.before.name) (changes state olds news) ≡ names_in state olds
names-before state [] news P texts all same = refl
names-before state (old ∷ olds) [] P texts all same = absurd (omega arith)
names-before state (old ∷ olds) (new ∷ news) P [] all same = absurd all
names-before state (old ∷ olds) (new ∷ news) P (t ∷ texts) all same = ap (λ names. (state old).name ∷ names) (names-before state olds news P texts all.1 (omega arith))
