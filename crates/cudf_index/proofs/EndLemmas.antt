-- Lists with the same counts have the same ends.
use Rattle.std.proofs.Common.{◌≡◌, ℕ, ◌<◌, ◌≤◌, ◌-◌, Bool, true, ◌==◌, List, [], length, get_or, Option, Some, None, refl, sym, ap, ◌∙◌, subst, arith, nat_lt}
use Rattle.std.specs.Prelude.{Contains, All, IsNone, ◌↔◌}
use Rattle.std.specs.List.Sorted.{IsNonDecreasing}
use Rattle.std.specs.List.{count_by, list_any}
use Rattle.std.proofs.lemmas.Bool.{eqb-true, eq-eqb, true≢false}
use Rattle.std.proofs.lemmas.List.{get_or_default, nil_from_length}
use Rattle.std.proofs.lemmas.List.Folds.{list_any_at, Any-from_list_any}
use Rattle.cudf_index.specs.Promises.Members.{IsLeast, IsGreatest}
use Rattle.cudf_index.proofs.CountLemmas.{any-count, count-all}

contains_any : (xs : List ℕ) (x : ℕ) → list_any (λ y. y == x) xs ≡ true → Contains xs x
contains_any xs x e = let at = Any-from_list_any (λ y. y == x) xs e in
    (at.0, at.2, get_or_default xs at.0 x at.1 at.2 ∙ at.3 ∙ eqb-true at.1 x at.4)

any_contains : (xs : List ℕ) (x : ℕ) → Contains xs x → list_any (λ y. y == x) xs ≡ true
any_contains xs x at = list_any_at (λ y. y == x) xs at.0 x at.1 (eq-eqb (get_or xs at.0 x) x at.2)

module _ (xs ys : List ℕ) (same : (p : ℕ → Bool) → count_by p xs ≡ count_by p ys) where
  pub contains_same : (x : ℕ) → Contains xs x → Contains ys x
  contains_same x at =
      contains_any ys x (any-count (λ y. y == x) ys ∙ ap (nat_lt 0) (sym (same (λ y. y == x))) ∙ sym (any-count (λ y. y == x) xs) ∙ any_contains xs x at)

  pub length_same : length xs ≡ length ys
  length_same = sym (count-all xs) ∙ same (λ x. true) ∙ count-all ys

pub all_same : (xs ys : List ℕ) → ((p : ℕ → Bool) → count_by p xs ≡ count_by p ys) → (P : ℕ → Type 0) → All P xs → All P ys
all_same xs ys same P all = λ k d inside.
    let at = contains_same ys xs (λ p. sym (same p)) (get_or ys k d) (k, inside, get_or_default ys k (get_or ys k d) d inside) in
    subst P at.2 (all at.0 (get_or ys k d) at.1)

nil_same : (xs ys : List ℕ) → length xs ≡ length ys → xs ≡ [] → ys ≡ []
nil_same xs ys l e = nil_from_length ys (sym l ∙ ap length e)

module _ (xs ys : List ℕ) (same : (p : ℕ → Bool) → count_by p xs ≡ count_by p ys) where
  none_same : (o : Option ℕ) → IsNone o ↔ (xs ≡ []) → IsNone o ↔ (ys ≡ [])
  none_same o none = (λ e. nil_same xs ys (length_same xs ys same) (none.0 e), λ e. none.1 (nil_same ys xs (sym (length_same xs ys same)) e))

  pub least_same : (o : Option ℕ) → IsLeast xs o → IsLeast ys o
  least_same None l = record { none = none_same None l.none; among = tt; bound = tt }
  least_same (Some n) l = record { none = none_same (Some n) l.none; among = contains_same xs ys same n l.among; bound = all_same xs ys same (λ m. n ≤ m) l.bound }

  pub greatest_same : (o : Option ℕ) → IsGreatest xs o → IsGreatest ys o
  greatest_same None l = record { none = none_same None l.none; among = tt; bound = tt }
  greatest_same (Some n) l = record { none = none_same (Some n) l.none; among = contains_same xs ys same n l.among; bound = all_same xs ys same (λ m. m ≤ n) l.bound }

pub least_none : IsLeast [] None
least_none = record { none = (λ _. refl, λ _. refl); among = tt; bound = tt }

pub greatest_none : IsGreatest [] None
greatest_none = record { none = (λ _. refl, λ _. refl); among = tt; bound = tt }

-- ---- the ends of an ascending list

module _ (xs : List ℕ) (ordered : IsNonDecreasing xs) (n : ℕ) where
  ends_some : 0 < length xs → IsNone (Some n) ↔ (xs ≡ [])
  ends_some some = (λ e. absurd (true≢false e), λ e. absurd (omega (arith, ap length e)))

  pub least_first : 0 < length xs → ((d : ℕ) → n ≡ get_or xs 0 d) → IsLeast xs (Some n)
  least_first some first = record {
    none = ends_some some;
    among = (0, some, sym (first n));
    bound = λ k d inside. omega (arith, first d, ordered 0 k d (omega arith) inside);
  }

  pub greatest_last : 0 < length xs → ((d : ℕ) → n ≡ get_or xs (length xs - 1) d) → IsGreatest xs (Some n)
  greatest_last some last = record {
    none = ends_some some;
    among = (length xs - 1, omega arith, sym (last n));
    bound = λ k d inside. omega (arith, last d, ordered k (length xs - 1) d (omega arith) (omega arith));
  }
