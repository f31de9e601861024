-- The ends of lists of numbers.
use Rattle.std.proofs.Common.{◌≡◌, ℕ, suc, ◌≤◌, Bool, true, false, min, max, List, [], ◌∷◌, length, nat_lt, Option, Some, None, refl, ap, subst, arith}
use Rattle.std.specs.Prelude.{IsNone, All, Contains, ◌↔◌}
use Rattle.std.specs.Option.{option_map_or}
use Rattle.std.proofs.lemmas.Bool.{true≢false, ltb-true, ltb-false}
use Rattle.std.proofs.lemmas.List.Elements.{All-cons}
use Rattle.cudf_index.specs.Promises.Members.{IsLeast, IsGreatest}
use Rattle.cudf_referee.specs.Explanations.{least_of, greatest_of}

-- the first one is an element, and so is each of the others
first_in : (n : ℕ) (ns : List ℕ) → Contains (n ∷ ns) n
first_in n ns = (0, omega arith, refl)

other_in : (n : ℕ) (ns : List ℕ) (m : ℕ) → Contains ns m → Contains (n ∷ ns) m
other_in n ns m at = (suc at.0, omega (arith, at.1), at.2)

some_number : (n m : ℕ) (ns : List ℕ) → IsNone (Some m) ↔ (n ∷ ns ≡ [])
some_number n m ns = (λ e. absurd (true≢false e), λ e. absurd (omega (arith, ap length e)))

least_among : (n : ℕ) (ns : List ℕ) (o : Option ℕ) → IsLeast ns o → IsLeast (n ∷ ns) (Some (option_map_or (min n) o n))
least_among n ns None is = record {
  none = some_number n n ns;
  among = first_in n ns;
  bound = All-cons (λ m. n ≤ m) n ns (omega arith) (λ k d inside. absurd (omega (arith, inside, ap length (is.none.0 refl))));
}
least_among n ns (Some m) is = record {
  none = some_number n (min n m) ns;
  among = by (nat_lt m n) refl;
  bound = All-cons (λ k. min n m ≤ k) n ns (omega arith) (λ k d inside. omega (arith, is.bound k d inside));
}
  where
    by : (b : Bool) → nat_lt m n ≡ b → Contains (n ∷ ns) (min n m)
    by true e = let lt = ltb-true m n e in let is_min : m ≡ min n m = omega arith in subst (Contains (n ∷ ns)) is_min (other_in n ns m is.among)
    by false e = let le = ltb-false m n e in let is_min : n ≡ min n m = omega arith in subst (Contains (n ∷ ns)) is_min (first_in n ns)

least_is : (ns : List ℕ) → IsLeast ns (least_of ns)
least_is [] = record { none = (λ e. refl, λ e. refl); among = tt; bound = tt }
least_is (n ∷ ns) = least_among n ns (least_of ns) (least_is ns)

greatest_among : (n : ℕ) (ns : List ℕ) (o : Option ℕ) → IsGreatest ns o → IsGreatest (n ∷ ns) (Some (option_map_or (max n) o n))
greatest_among n ns None is = record {
  none = some_number n n ns;
  among = first_in n ns;
  bound = All-cons (λ m. m ≤ n) n ns (omega arith) (λ k d inside. absurd (omega (arith, inside, ap length (is.none.0 refl))));
}
greatest_among n ns (Some m) is = record {
  none = some_number n (max n m) ns;
  among = by (nat_lt m n) refl;
  bound = All-cons (λ k. k ≤ max n m) n ns (omega arith) (λ k d inside. omega (arith, is.bound k d inside));
}
  where
    by : (b : Bool) → nat_lt m n ≡ b → Contains (n ∷ ns) (max n m)
    by true e = let lt = ltb-true m n e in let is_max : n ≡ max n m = omega arith in subst (Contains (n ∷ ns)) is_max (first_in n ns)
    by false e = let le = ltb-false m n e in let is_max : m ≡ max n m = omega arith in subst (Contains (n ∷ ns)) is_max (other_in n ns m is.among)

greatest_is : (ns : List ℕ) → IsGreatest ns (greatest_of ns)
greatest_is [] = record { none = (λ e. refl, λ e. refl); among = tt; bound = tt }
greatest_is (n ∷ ns) = greatest_among n ns (greatest_of ns) (greatest_is ns)

-- an element satisfies what each does
at_element : (P : ℕ → Type 0) (ns : List ℕ) (m : ℕ) → All P ns → Contains ns m → P m
at_element P ns m all at = subst P at.2 (all at.0 m at.1)

-- there is one least number
pub least_alone : (ns : List ℕ) (o : Option ℕ) → IsLeast ns o → o ≡ least_of ns
least_alone ns o is = by o (least_of ns) is (least_is ns)
  where
    by : (a b : Option ℕ) → IsLeast ns a → IsLeast ns b → a ≡ b
    by None None l r = refl
    by None (Some n) l r = absurd (true≢false (r.none.1 (l.none.0 refl)))
    by (Some m) None l r = absurd (true≢false (l.none.1 (r.none.0 refl)))
    by (Some m) (Some n) l r =
        let below = at_element (λ k. m ≤ k) ns n l.bound r.among in
        let above = at_element (λ k. n ≤ k) ns m r.bound l.among in
        ap Some (omega arith)

-- and one greatest
pub greatest_alone : (ns : List ℕ) (o : Option ℕ) → IsGreatest ns o → o ≡ greatest_of ns
greatest_alone ns o is = by o (greatest_of ns) is (greatest_is ns)
  where
    by : (a b : Option ℕ) → IsGreatest ns a → IsGreatest ns b → a ≡ b
    by None None l r = refl
    by None (Some n) l r = absurd (true≢false (r.none.1 (l.none.0 refl)))
    by (Some m) None l r = absurd (true≢false (l.none.1 (r.none.0 refl)))
    by (Some m) (Some n) l r =
        let above = at_element (λ k. k ≤ m) ns n l.bound r.among in
        let below = at_element (λ k. k ≤ n) ns m r.bound l.among in
        ap Some (omega arith)
