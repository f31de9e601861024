-- Lists: one more element, each with those before it, and keys.
use Rattle.std.proofs.Common.{Result, Ok, Err, OnOk, ◌≡◌, ℕ, ◌+◌, ◌<◌, nat_lt, length, get_or, take, subst, Bool, true, false, not, ◌||◌, List, [], ◌∷◌, ◌++◌, map, Option, None, Some, find, position, refl, sym, ap, ◌∙◌, if◌then◌else◌, option_map, is_some, is_none, IsSome, rules, option_to_list, option_copied, Bor, bytes_eq}
use Rattle.std.proofs.Math.Bool.{or-false, or_assoc}
use Rattle.std.proofs.lemmas.List.{append_assoc, append-nil, length-map, map_push, map_more}
use Rattle.std.proofs.lemmas.List.Folds.{list_any-append, list_all_at}
use Rattle.std.specs.List.{list_any, list_all, prefix_len, cons_option}
use Rattle.std.specs.Option.{option_or}
use Rattle.std.specs.Map.{lookup}
use Rattle.indexmap.specs.IndexSet.{insert_key}
use Rattle.cudf_problem.specs.Documents.{is_empty, with_earlier}

-- each with those before it, and one more
pub with_earlier-push : {A : Type 0} (before xs : List A) (x : A) → with_earlier before (xs ++ x ∷ []) ≡ with_earlier before xs ++ (before ++ xs, x) ∷ []
with_earlier-push before [] x = ap (λ b. (b, x) ∷ []) (sym (append-nil before))
with_earlier-push before (y ∷ xs) x =
    ap (λ l. (before, y) ∷ l) (with_earlier-push (before ++ y ∷ []) xs x)
    ∙ ap (λ b. (before, y) ∷ (with_earlier (before ++ y ∷ []) xs ++ (b, x) ∷ [])) (append_assoc before (y ∷ []) xs)

pub is_empty-push : {A : Type 0} (xs : List A) (x : A) → is_empty (xs ++ x ∷ []) ≡ false
is_empty-push [] x = refl
is_empty-push (y ∷ xs) x = refl

-- ---- tests

alike_or : (a b c : Bool) → a ≡ b → (a || c) ≡ (a || c || b)
alike_or true b c same = refl
alike_or false true c same = absurd cc
alike_or false false c same = sym (or-false c)

-- ---- tests through a view

pub list_any-map : {A B : Type 0} (view : A → B) (test : B → Bool) (xs : List A) → list_any test (map view xs) ≡ list_any (λ x. test (view x)) xs
list_any-map view test [] = refl
list_any-map view test (x ∷ xs) = ap (λ b. test (view x) || b) (list_any-map view test xs)

pub find-map : {A B : Type 0} (view : A → B) (test : B → Bool) (xs : List A) → option_map view (find (λ x. test (view x)) xs) ≡ find test (map view xs)
find-map view test [] = refl
find-map {A} {B} view test (x ∷ xs) = by (test (view x)) (find-map view test xs)
  where
    by : (b : Bool) → option_map view (find (λ y. test (view y)) xs) ≡ find test (map view xs)
        → option_map view (if b then Some x else find (λ y. test (view y)) xs) ≡ (if b then Some (view x) else find test (map view xs))
    by true rest = refl
    by false rest = rest

prefix_len-map : {A B : Type 0} (view : A → B) (test : B → Bool) (xs : List A) → prefix_len (λ x. test (view x)) xs ≡ prefix_len test (map view xs)
prefix_len-map view test [] = refl
prefix_len-map view test (x ∷ xs) = ap (λ n. if test (view x) then 1 + n else 0) (prefix_len-map view test xs)

pub position-map : {A B : Type 0} (view : A → B) (test : B → Bool) (xs : List A) → position (λ x. test (view x)) xs ≡ position test (map view xs)
position-map view test xs =
    let place = prefix_len-map view (λ y. not (test y)) xs in
    let len = sym (length-map xs view) in
    λ i. if nat_lt (place i) (len i) then Some (place i) else None

-- what is found by a key of the entries is found by the name that their values have
pub lookup-find : {K V W : Type 0} (key : K → List ℕ) (view : V → W) (name : W → List ℕ) (wanted : List ℕ) (es : List (K × V))
    → map (λ e. key e.0) es ≡ map (λ e. name (view e.1)) es
    → option_map view (lookup (λ k. bytes_eq wanted (key k)) es) ≡ find (λ w. bytes_eq wanted (name w)) (map (λ e. view e.1) es)
lookup-find key view name wanted [] same = refl
lookup-find {K} {V} {W} key view name wanted (e ∷ es) same =
    let here : key e.0 ≡ name (view e.1) = cc in
    let after : map (λ e. key e.0) es ≡ map (λ e. name (view e.1)) es = cc in
    by (bytes_eq wanted (key e.0)) (lookup-find key view name wanted es after)
    ∙ ap (λ n. if bytes_eq wanted n then Some (view e.1) else find (λ w. bytes_eq wanted (name w)) (map (λ e. view e.1) es)) here
  where
    by : (b : Bool) → option_map view (lookup (λ k. bytes_eq wanted (key k)) es) ≡ find (λ w. bytes_eq wanted (name w)) (map (λ e. view e.1) es)
        → option_map view (if b then Some e.1 else lookup (λ k. bytes_eq wanted (key k)) es)
        ≡ (if b then Some (view e.1) else find (λ w. bytes_eq wanted (name w)) (map (λ e. view e.1) es))
    by true rest = refl
    by false rest = rest

-- the elements read so far, with the one that is read next
pub map_next : {A B : Type 0} (view : A → B) (xs ys : List A) (i : ℕ) (x : A) → i < length ys → x ≡ get_or ys i x → ys ≡ xs
    → map view (take (i + 1) xs) ≡ map view (take i xs) ++ view x ∷ []
map_next view xs ys i x within is same =
    let inside : i < length xs = subst (λ l. i < length l) same within in
    map_more view xs i x inside ∙ ap (λ y. map view (take i xs) ++ view y ∷ []) (sym (is ∙ ap (λ l. get_or l i x) same))

-- the same where the items are copied
pub map_next-copied : {A B : Type 0} (view : A → B) (xs ys : List A) (i : ℕ) (d : A) → i < length ys → ys ≡ xs → map view (take (i + 1) xs) ≡ map view (take i xs) ++ view (get_or ys i d) ∷ []
map_next-copied view xs ys i d within same =
    map_more view xs i d (subst (λ l. i < length l) same within) ∙ ap (λ l. map view (take i xs) ++ view (get_or l i d) ∷ []) (sym same)

-- ---- keys of a set

-- the keys, seen through a view, after one is inserted
-- what all pass an element passes
pub all_here : {A : Type 0} (test : A → Bool) (xs : List A) (i : ℕ) (x : A) → i < length xs → x ≡ get_or xs i x → list_all test xs ≡ true → test x ≡ true
all_here test xs i x within is all = by (test x) refl
  where
    by : (b : Bool) → test x ≡ b → b ≡ true
    by true e = refl
    by false e = sym (list_all_at test xs i x within (ap test (sym is) ∙ e)) ∙ all

pub map-insert_key : {A B : Type 0} (view : A → B) (same : B → B → Bool) (keys : List A) (key : A)
    → map view (insert_key (λ x y. same (view x) (view y)) keys key) ≡ insert_key same (map view keys) (view key)
map-insert_key {A} {B} view same keys key =
    by (list_any (λ k. same (view key) (view k)) keys) ∙ ap (λ b. if b then map view keys else map view keys ++ view key ∷ []) (sym (list_any-map view (same (view key)) keys))
  where
    by : (b : Bool) → map view (if b then keys else keys ++ key ∷ []) ≡ (if b then map view keys else map view keys ++ view key ∷ [])
    by true = refl
    by false = map_push view keys key

-- what passes among the keys after one is inserted
pub list_any-insert_key : {A : Type 0} (same : A → A → Bool) (test : A → Bool) (keys : List A) (key : A)
    → ((k : A) → same key k ≡ true → test k ≡ test key) → list_any test (insert_key same keys key) ≡ (list_any test keys || test key)
list_any-insert_key {A} same test keys key alike = by (list_any (same key) keys) refl
  where
    among : (ks : List A) → list_any (same key) ks ≡ true → list_any test ks ≡ (list_any test ks || test key)
    among [] there = absurd cc
    among (k ∷ ks) there = at (same key k) refl there (among ks)
      where
        at : (b : Bool) → same key k ≡ b → (b || list_any (same key) ks) ≡ true → (list_any (same key) ks ≡ true → list_any test ks ≡ (list_any test ks || test key))
            → (test k || list_any test ks) ≡ (test k || list_any test ks || test key)
        at true here there more = alike_or (test k) (test key) (list_any test ks) (alike k here)
        at false here there more = ap (λ b. test k || b) (more there) ∙ sym (or_assoc (test k) (list_any test ks) (test key))

    by : (b : Bool) → list_any (same key) keys ≡ b → list_any test (if b then keys else keys ++ key ∷ []) ≡ (list_any test keys || test key)
    by true there = among keys there
    by false there = list_any-append test keys (key ∷ []) ∙ ap (λ b. list_any test keys || b) (or-false (test key))

-- ---- options

-- what is lent, seen through a view
pub option_map-copied : {A B : Type 0} (view : A → B) (x : Option (Bor A)) → option_map (λ r. view r.now) x ≡ option_map view (option_copied x)
option_map-copied view None = refl
option_map-copied view (Some r) = refl

pub option_map-none : {A B : Type 0} (view : A → B) (x : Option A) → option_map view x ≡ None → x ≡ None
option_map-none view None none = refl
option_map-none view (Some y) none = absurd cc

pub as_list : {A : Type 0} (o : Option A) → option_to_list o ≡ cons_option o []
as_list None = refl
as_list (Some x) = refl

pub option_or-none : {A : Type 0} (x : Option A) → option_or x None ≡ x
option_or-none None = refl
option_or-none (Some y) = refl

-- ---- what is found

pub is_some-find : {A : Type 0} (test : A → Bool) (xs : List A) → is_some (find test xs) ≡ list_any test xs
is_some-find test [] = refl
is_some-find {A} test (x ∷ xs) = by (test x) (is_some-find test xs)
  where
    by : (b : Bool) → is_some (find test xs) ≡ list_any test xs → is_some (if b then Some x else find test xs) ≡ (b || list_any test xs)
    by true rest = refl
    by false rest = rest

pub find_none : {A : Type 0} (test : A → Bool) (xs : List A) → list_any test xs ≡ false → find test xs ≡ None
find_none test xs none = none_of (find test xs) (is_some-find test xs ∙ none)
  where
    none_of : {A : Type 0} (x : Option A) → is_some x ≡ false → x ≡ None
    none_of None h = refl
    none_of (Some y) h = absurd cc

pub is_some-option_map : {A B : Type 0} (view : A → B) (x : Option A) → is_some (option_map view x) ≡ is_some x
is_some-option_map view None = refl
is_some-option_map view (Some y) = refl

pub option_map-option_map : {A B C : Type 0} (f : B → C) (g : A → B) (x : Option A) → option_map f (option_map g x) ≡ option_map (λ y. f (g y)) x
option_map-option_map f g None = refl
option_map-option_map f g (Some y) = refl

pub IsSome-from : {A : Type 0} (x : Option A) → is_some x ≡ true → IsSome x
IsSome-from None there = absurd cc
IsSome-from (Some y) there = search rules

pub is_none-find : {A : Type 0} (test : A → Bool) (xs : List A) → is_none (find test xs) ≡ not (list_any test xs)
is_none-find test xs = by (find test xs) ∙ ap not (is_some-find test xs)
  where
    by : {A : Type 0} (x : Option A) → is_none x ≡ not (is_some x)
    by None = refl
    by (Some y) = refl

pub OnOk-along : {A E : Type 0} {P Q : Type 0} (r : Result A E) → (P → Q) → OnOk r P → OnOk r Q
OnOk-along (Ok x) f p = f p
OnOk-along (Err e) f p = tt
