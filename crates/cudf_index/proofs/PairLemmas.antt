-- How many pairs of packages give two different numbers.
use Rattle.std.proofs.Common.{◌≡◌, ℕ, ◌+◌, ◌-◌, ◌*◌, ◌<◌, ◌≤◌, suc, Bool, true, false, not, cond, ◌||◌, ◌==◌, List, [], ◌∷◌, ◌++◌, length, length-append, Option, Some, None, refl, sym, ap, ◌∙◌, arith}
use Rattle.std.specs.List.{count_by, list_any, sum_by}
use Rattle.std.specs.List.Sorted.{IsPermutation}
use Rattle.std.proofs.Math.Nat.{mul-suc, suc-mul}
use Rattle.std.proofs.Math.Bool.{or-false}
use Rattle.std.proofs.lemmas.Bool.{eq-eqb}
use Rattle.std.proofs.lemmas.Bool.Decides.{nat_tests}
use Rattle.std.proofs.lemmas.List.{append-nil}
use Rattle.std.proofs.lemmas.List.Sorted.{sum_by-IsPermutation}
use Rattle.std.proofs.lemmas.List.Sums.{sum_by-cons, count_by-le-length}
use Rattle.cudf_value.specs.declared.vpkg.Relop.{Relop}
use Rattle.cudf_value.specs.declared.vpkg.Relop.TheVariants.{Neq}
use Rattle.cudf_value.specs.Vpkgs.{meets}
use Rattle.cudf_index.specs.Promises.Counts.{count_pairs}
use Rattle.cudf_index.specs.Working.NumbersByPackage.{count_over, is_same}
use Rattle.cudf_index.specs.Working.Givers.{numbers_given, numbers_differ, runs_differ}
use Rattle.cudf_index.specs.Working.Places.{HoldsSame}
use Rattle.cudf_index.specs.declared.index.gathered_names.Provision.{Provision}
use Rattle.cudf_index.proofs.ClauseLemmas.{any_never}
use Rattle.cudf_index.proofs.CountLemmas.{count-cons, count-append}
use Rattle.cudf_index.proofs.GiverLemmas.{any_same, firsts, soles, same_length}
use Rattle.cudf_index.proofs.PlaceLemmas.{Rising}

-- ---- one more

pub pairs_more : {A : Type 0} (r : A → A → Bool) (xs : List A) (x : A) → count_pairs r (xs ++ x ∷ []) ≡ (count_pairs r xs + count_by (λ y. r y x) xs) + cond (r x x) 1 0
pairs_more r [] x = omega (arith, count-cons (r x) x [])
pairs_more r (y ∷ ys) x = omega (arith, count-append (r y) (y ∷ ys) (x ∷ []), count-cons (r y) x [], count-cons (λ z. r z x) y ys, pairs_more r ys x)

-- ---- equal numbers

sums_add : {A : Type 0} (f g : A → ℕ) (xs : List A) → sum_by (λ x. f x + g x) xs ≡ sum_by f xs + sum_by g xs
sums_add f g [] = refl
sums_add f g (x ∷ xs) = omega (arith, sum_by-cons (λ x. f x + g x) x xs, sum_by-cons f x xs, sum_by-cons g x xs, sums_add f g xs)

-- of each number how many are equal to it
abbrev pub equals : List ℕ → List ℕ → ℕ
equals all ms = sum_by (λ m. count_by (λ n. n == m) all) ms

turned : (m n : ℕ) → (m == n) ≡ (n == m)
turned m n = grind (arith, nat_tests)

pub equals_pairs : (ms : List ℕ) → equals ms ms + length ms ≡ 2 * count_pairs is_same ms
equals_pairs [] = refl
equals_pairs (m ∷ ms) =
    let here = sum_by-cons (λ k. count_by (λ n. n == k) (m ∷ ms)) m ms in
    let each : equals (m ∷ ms) ms ≡ sum_by (λ k. cond (m == k) 1 0 + count_by (λ n. n == k) ms) ms = ap (λ f. sum_by f ms) (λ i k. count-cons (λ n. n == k) m ms i) in
    let both = sums_add (λ k. cond (m == k) 1 0) (λ k. count_by (λ n. n == k) ms) ms in
    let same : count_by (λ n. n == m) ms ≡ count_by (λ n. m == n) ms = ap (λ p. count_by p ms) (λ i n. turned n m i) in
    let own : cond (m == m) 1 0 ≡ 1 = ap {B = ℕ} (λ b. cond b 1 0) (eq-eqb m m refl) in
    omega (arith, here, each, both, same, own, count-cons (λ n. n == m) m ms, count-cons (λ n. m == n) m ms, equals_pairs ms)

pub pairs_moved : (xs ys : List ℕ) → IsPermutation xs ys → ((p : ℕ → Bool) → count_by p ys ≡ count_by p xs) → count_pairs is_same ys ≡ count_pairs is_same xs
pairs_moved xs ys moved same =
    let every : equals ys ys ≡ equals xs ys = ap (λ f. sum_by f ys) (λ i m. same (λ n. n == m) i) in
    omega (arith, every, sum_by-IsPermutation (λ m. count_by (λ n. n == m) xs) xs ys moved, equals_pairs xs, equals_pairs ys, same_length xs ys same)

-- ---- packages

pub count_none : {A : Type 0} (xs : List A) → count_by (λ x. false) xs ≡ 0
count_none [] = refl
count_none (x ∷ xs) = omega (arith, count-cons (λ y. false) x xs, count_none xs)

unequal : (n m k : ℕ) (b : Bool) → m < k → (not (n == m) || (not (n == k) || b)) ≡ true
unequal n m k b less = grind (arith, nat_tests)

alone : (m : ℕ) → ((not (m == m) || false) || false) ≡ false
alone m = ap (λ b. (not b || false) || false) (eq-eqb m m refl)

next_square : (n m : ℕ) → m ≡ n + 1 → m * m + m ≡ (n * n + n) + (2 * n + 2)
next_square n m is =
    let next : m ≡ suc n = omega (arith, is) in
    ap (λ k. k * k + k) next ∙ omega (arith, mul-suc (suc n) n, suc-mul n n)

-- the packages so far, by what is counted of them, and one more that gives these numbers
module _ (done : List (List Provision)) (run : List Provision) (l g e o : List ℕ) (within : (bound : Option (Relop × ℕ)) → count_over bound l g e o ≡ count_by (λ p. list_any (meets bound) (numbers_given p)) done) (few : length o ≤ length l) where
  abbrev Pairs : List (List Provision) → List ℕ → List ℕ → Type 0
  Pairs packages least only = 2 * (count_pairs runs_differ packages + count_pairs is_same only) ≡ length least * length least + length least

  pub pairs_given : (ns : List ℕ) → Rising ns → HoldsSame (numbers_given run) ns → Pairs done l o → Pairs (done ++ run ∷ []) (l ++ firsts ns) (o ++ soles ns)
  pairs_given ns up same before = by ns up same
    where
      each : (ns : List ℕ) → HoldsSame (numbers_given run) ns → (test : ℕ → Bool) → ((m : ℕ) → list_any (λ n. not (m == n)) ns ≡ test m) → count_by (λ p. runs_differ p run) done ≡ count_by (λ p. list_any test (numbers_given p)) done
      each ns same test tells = ap (λ (t : ℕ → Bool). count_by (λ (p : List Provision). list_any t (numbers_given p)) done) (λ i m. (sym (any_same (λ n. not (m == n)) (numbers_given run) ns same) ∙ tells m) i)

      own : (ns : List ℕ) → HoldsSame (numbers_given run) ns → runs_differ run run ≡ numbers_differ ns ns
      own ns same =
          sym (any_same (λ m. list_any (λ n. not (m == n)) (numbers_given run)) (numbers_given run) ns same)
          ∙ ap (λ (t : ℕ → Bool). list_any t ns) (λ i m. sym (any_same (λ n. not (m == n)) (numbers_given run) ns same) i)

      by : (ns : List ℕ) → Rising ns → HoldsSame (numbers_given run) ns → Pairs (done ++ run ∷ []) (l ++ firsts ns) (o ++ soles ns)
      by [] up same =
          let others : count_by (λ p. runs_differ p run) done ≡ 0 = each [] same (λ n. false) (λ n. refl) ∙ ap (λ t. count_by t done) (λ i p. any_never (λ n. false) (λ n. refl) (numbers_given p) i) ∙ count_none done in
          let itself : cond (runs_differ run run) 1 0 ≡ 0 = ap {B = ℕ} (λ b. cond b 1 0) (own [] same) in
          omega (arith, before, pairs_more runs_differ done run, others, itself, ap (count_pairs is_same) (append-nil o), ap (λ (ls : List ℕ). length ls * length ls + length ls) (append-nil l))
      by (m ∷ []) up same =
          let others : count_by (λ p. runs_differ p run) done ≡ length l - count_by (λ n. n == m) o = each (m ∷ []) same (meets (Some (Neq, m))) (λ n. or-false (not (n == m))) ∙ sym (within (Some (Neq, m))) in
          let itself : cond (runs_differ run run) 1 0 ≡ 0 = ap {B = ℕ} (λ b. cond b 1 0) (own (m ∷ []) same ∙ alone m) in
          let this : cond (m == m) 1 0 ≡ 1 = ap {B = ℕ} (λ b. cond b 1 0) (eq-eqb m m refl) in
          omega (arith, before, pairs_more runs_differ done run, others, itself, this, pairs_more is_same o m, count_by-le-length (λ n. n == m) o, next_square (length l) (length (l ++ m ∷ [])) (length-append l (m ∷ [])))
      by (m ∷ k ∷ ks) up same =
          let others : count_by (λ p. runs_differ p run) done ≡ length l = each (m ∷ k ∷ ks) same (meets None) (λ n. unequal n m k _ up.0) ∙ sym (within None) in
          let itself : cond (runs_differ run run) 1 0 ≡ 1 = ap {B = ℕ} (λ b. cond b 1 0) (own (m ∷ k ∷ ks) same ∙ ap (λ b. b || numbers_differ (k ∷ ks) (m ∷ k ∷ ks)) (unequal m m k _ up.0)) in
          omega (arith, before, pairs_more runs_differ done run, others, itself, ap (count_pairs is_same) (append-nil o), next_square (length l) (length (l ++ m ∷ [])) (length-append l (m ∷ [])))
