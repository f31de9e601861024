-- Tests, and lists: what passes, how many do, and which are empty.
use Rattle.std.proofs.Common.{◌≡◌, ℕ, ◌+◌, ◌<◌, Bool, true, false, not, ◌&&◌, ◌||◌, List, [], ◌∷◌, ◌++◌, length, take, get_or, map, filter, cond, refl, ap, sym, ◌∙◌, arith}
use Rattle.std.proofs.lemmas.List.{map-append, take_more}
use Rattle.std.proofs.lemmas.List.Folds.{list_all-append}
use Rattle.std.proofs.lemmas.List.Sums.{sum_by-cons}
use Rattle.std.specs.List.{count_by, list_all, list_any, flat_map, enumerate_from}
use Rattle.cudf_problem.specs.Documents.{is_empty}
use Rattle.std.proofs.lemmas.Grind.{common_steps}

pub and_true : (a : Bool) → (a && true) ≡ a
and_true true = refl
and_true false = refl

pub and_false : (a : Bool) → (a && false) ≡ false
and_false true = refl
and_false false = refl

pub or_true : (a : Bool) → (a || true) ≡ true
or_true true = refl
or_true false = refl

pub and_left : (a b : Bool) → (a && b) ≡ true → a ≡ true
and_left true b h = refl
and_left false b h = h

pub and_right : (a b : Bool) → (a && b) ≡ true → b ≡ true
and_right true b h = h
and_right false b h = absurd (cc h)

pub not_not : (a : Bool) → not (not a) ≡ a
not_not true = refl
not_not false = refl

-- ---- what is kept of a list

-- a test of what is made is a test of what it is made of
pub filter-map : {A B : Type 0} (test : B → Bool) (f : A → B) (xs : List A) → filter test (map f xs) ≡ map f (filter (λ x. test (f x)) xs)
filter-map test f [] = refl
filter-map test f (x ∷ xs) = grind (arith, common_steps, filter-map test f xs)

pub all_kept : {A : Type 0} (test : A → Bool) → ((x : A) → test x ≡ true) → (xs : List A) → filter test xs ≡ xs
all_kept test h [] = refl
all_kept test h (x ∷ xs) = (λ i. cond (h x i) (x ∷ all_kept test h xs i) (all_kept test h xs i))

pub none_kept : {A : Type 0} (test : A → Bool) → ((x : A) → test x ≡ false) → (xs : List A) → filter test xs ≡ []
none_kept test h [] = refl
none_kept test h (x ∷ xs) = (λ i. cond (h x i) (x ∷ none_kept test h xs i) (none_kept test h xs i))

-- what passes both tests is what passes one of what passes the other
pub filter-both : {A : Type 0} (p q : A → Bool) (xs : List A) → filter (λ x. p x && q x) xs ≡ filter q (filter p xs)
filter-both p q [] = refl
filter-both p q (x ∷ xs) = grind (arith, common_steps, filter-both p q xs)

pub weaker_case : (a b : Bool) → (b ≡ true → a ≡ true) → (a && b) ≡ b
weaker_case true b h = refl
weaker_case false true h = h refl
weaker_case false false h = refl

-- ---- how many pass

pub count-cons : {A : Type 0} (test : A → Bool) (x : A) (xs : List A) → count_by test (x ∷ xs) ≡ cond (test x) 1 0 + count_by test xs
count-cons test x xs = sum_by-cons (λ y. cond (test y) 1 0) x xs

pub count-map : {A B : Type 0} (test : B → Bool) (f : A → B) (xs : List A) → count_by test (map f xs) ≡ count_by (λ x. test (f x)) xs
count-map test f [] = refl
count-map test f (x ∷ xs) = count-cons test (f x) (map f xs) ∙ ap (λ n. cond (test (f x)) 1 0 + n) (count-map test f xs) ∙ sym (count-cons (λ y. test (f y)) x xs)

-- ---- tests of all elements

-- tests that agree everywhere
pub list_all-same : {A : Type 0} (p q : A → Bool) → ((x : A) → p x ≡ q x) → (xs : List A) → list_all p xs ≡ list_all q xs
list_all-same p q same xs = ap (λ test. list_all test xs) (λ i x. same x i)

pub is_empty-append : {A : Type 0} (xs ys : List A) → is_empty (xs ++ ys) ≡ (is_empty xs && is_empty ys)
is_empty-append [] ys = refl
is_empty-append (x ∷ xs) ys = refl

pub is_empty-map : {A B : Type 0} (f : A → B) (xs : List A) → is_empty (map f xs) ≡ is_empty xs
is_empty-map f [] = refl
is_empty-map f (x ∷ xs) = refl

pub list_all-flat_map : {A B : Type 0} (p : B → Bool) (f : A → List B) (xs : List A) → list_all p (flat_map f xs) ≡ list_all (λ x. list_all p (f x)) xs
list_all-flat_map p f [] = refl
list_all-flat_map p f (x ∷ xs) = list_all-append p (f x) (flat_map f xs) ∙ ap (λ b. list_all p (f x) && b) (list_all-flat_map p f xs)

pub is_empty-filter : {A : Type 0} (test : A → Bool) (xs : List A) → is_empty (filter test xs) ≡ list_all (λ x. not (test x)) xs
is_empty-filter test [] = refl
is_empty-filter test (x ∷ xs) = grind (arith, common_steps, is_empty-filter test xs)

-- a test of the elements alone doesn't see their numbers
pub list_all-enumerate : {A : Type 0} (p : A → Bool) (n : ℕ) (xs : List A) → list_all (λ x. p x.1) (enumerate_from n xs) ≡ list_all p xs
list_all-enumerate p n [] = refl
list_all-enumerate p n (x ∷ xs) = ap (λ b. p x && b) (list_all-enumerate p (n + 1) xs)

pub list_all-and : {A : Type 0} (p q : A → Bool) (xs : List A) → list_all (λ x. p x && q x) xs ≡ (list_all p xs && list_all q xs)
list_all-and p q [] = refl
list_all-and p q (x ∷ xs) = grind (arith, common_steps, list_all-and p q xs)

-- a test where another holds is a test of those that pass the other
pub list_all-filter : {A : Type 0} (t p : A → Bool) (xs : List A) → list_all (λ x. cond (t x) (p x) true) xs ≡ list_all p (filter t xs)
list_all-filter t p [] = refl
list_all-filter t p (x ∷ xs) = grind (arith, common_steps, list_all-filter t p xs)

-- none passes
pub list_any-none : {A : Type 0} (p : A → Bool) (xs : List A) → not (list_any p xs) ≡ list_all (λ x. not (p x)) xs
list_any-none p [] = refl
list_any-none p (x ∷ xs) = grind (arith, common_steps, list_any-none p xs)

-- one more of what is made of the first ones
pub map-more : {A B : Type 0} (f : A → B) (xs : List A) (n : ℕ) (x : A) (made : List B) (y : B) (more : List B) → n < length xs → made ≡ map f (take n xs) → x ≡ get_or xs n x → y ≡ f x
    → more ≡ made ++ y ∷ [] → more ≡ map f (take (n + 1) xs)
map-more f xs n x made y more inside so_far is one added =
    added ∙ (λ i. so_far i ++ one i ∷ []) ∙ ap (λ z. map f (take n xs) ++ f z ∷ []) is ∙ sym (map-append f (take n xs) (get_or xs n x ∷ [])) ∙ ap (map f) (sym (take_more xs n x inside))
