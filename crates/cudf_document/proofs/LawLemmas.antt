-- The first of several faults.
use Rattle.std.proofs.Common.{◌≡◌, ◌⊎◌, ℕ, suc, zero, Bool, true, false, ◌||◌, ◌&&◌, ◌==◌, nat_lt, List, [], ◌∷◌, Option, None, Some, IsTrue, Contains, inl, inr, refl, sym, ap, subst, ◌∙◌, arith, if◌then◌else◌}
use Rattle.std.proofs.lemmas.Bool.Decides.{nat_tests}
use Rattle.std.proofs.lemmas.Option.{same_Some}
use Rattle.std.proofs.lemmas.List.Elements.{Contains-append_cases, Contains-append_right}
use Rattle.cudf_text.specs.declared.fault.Fault.{Fault}
use Rattle.cudf_text.specs.declared.fault.Kind.{Kind}
use Rattle.cudf_text.specs.declared.fault.Kind.TheVariants.{E1, E2, E3, E4, E5, E6, E7, E8, E9, E10, E11, E12, E13, E14, E15, E16}
use Rattle.cudf_text.specs.Faults.{rank, precedes}
use Rattle.cudf_document.specs.Faults.{lesser, least}
use Rattle.cudf_document.specs.Promises.Laws.{IsFirst, LeastIsFirst}
use Rattle.cudf_document.proofs.FaultLemmas.{precedes_along, least-none}

-- ---- kinds by their numbers

abbrev kind_numbered : ℕ → Kind
kind_numbered n = if n == 1 then E1 else (if n == 2 then E2 else (if n == 3 then E3 else (if n == 4 then E4 else (if n == 5 then E5
    else (if n == 6 then E6 else (if n == 7 then E7 else (if n == 8 then E8 else (if n == 9 then E9 else (if n == 10 then E10
    else (if n == 11 then E11 else (if n == 12 then E12 else (if n == 13 then E13 else (if n == 14 then E14
    else (if n == 15 then E15 else E16))))))))))))))

numbered : (k : Kind) → kind_numbered (rank k) ≡ k
numbered E1 = refl
numbered _ = refl

same_place : (a k b l : ℕ) → (nat_lt a b || a == b && nat_lt k l) ≡ false → (nat_lt b a || b == a && nat_lt l k) ≡ false → (a ≡ b) × (k ≡ l)
same_place a k b l p q = (grind (arith, nat_tests), grind (arith, nat_tests))

not_both : (a k b l : ℕ) → (nat_lt a b || a == b && nat_lt k l) ≡ true → (nat_lt b a || b == a && nat_lt l k) ≡ true → ⊥
not_both a k b l p q = grind (arith, nat_tests)

-- of two faults of which neither precedes the other, both are one
same_fault : (f g : Fault) → precedes f g ≡ false → precedes g f ≡ false → f ≡ g
same_fault f g p q =
    let places = same_place f.line (rank f.kind) g.line (rank g.kind) p q in
    λ i. record { line = places.0 i; kind = (sym (numbered f.kind) ∙ ap kind_numbered places.1 ∙ numbered g.kind) i }

-- ---- the least is the first

pub head_or_after : (x g : Fault) (xs : List Fault) → Contains (x ∷ xs) g → (g ≡ x) ⊎ Contains xs g
head_or_after x g xs there = elim (Contains-append_cases (x ∷ []) xs g there) [ inl one ↦ inl (alone one) | inr more ↦ inr more ]
  where
    alone : Contains (x ∷ []) g → g ≡ x
    alone (zero, lt, is) = sym is
    alone (suc k, lt, is) = absurd (omega arith)

pub none_in_nil : (g : Fault) → Contains [] g → ⊥
none_in_nil g (k, lt, is) = omega arith

pub at_head : (x : Fault) (xs : List Fault) → Contains (x ∷ xs) x
at_head x xs = (zero, omega arith, refl)

-- x before faults of which m is the first
module _ (x m : Fault) (xs : List Fault) (first : IsFirst xs m) where
  still_first : precedes m x ≡ true → IsFirst (x ∷ xs) m
  still_first before = (
    Contains-append_right (x ∷ []) xs m first.0,
    λ g there. elim (head_or_after x g xs there) [
      | inl one ↦ inr (ap (precedes m) one ∙ before)
      | inr more ↦ first.1 g more
    ],
  )

  now_first : precedes m x ≡ false → IsFirst (x ∷ xs) x
  now_first after = (at_head x xs, λ g there. elim (head_or_after x g xs there) [ inl one ↦ inl one | inr more ↦ by (precedes x m) refl g (first.1 g more) ])
    where
      by : (b : Bool) → precedes x m ≡ b → (g : Fault) → (g ≡ m) ⊎ IsTrue (precedes m g) → (g ≡ x) ⊎ IsTrue (precedes x g)
      by true before g (inl one) = inr (ap (precedes x) one ∙ before)
      by true before g (inr more) = inr (precedes_along x m g before more)
      by false not_before g (inl one) = inl (one ∙ sym (same_fault x m not_before after))
      by false not_before g (inr more) = inr (ap (λ f. precedes f g) (same_fault x m not_before after) ∙ more)

alone_first : (x : Fault) → IsFirst (x ∷ []) x
alone_first x = (at_head x [], λ g there. elim (head_or_after x g [] there) [ inl one ↦ inl one | inr more ↦ absurd (none_in_nil g more) ])

first_after : (x : Fault) (xs : List Fault) (f : Fault) → lesser (Some x) (least xs) ≡ Some f → ((m : Fault) → least xs ≡ Some m → IsFirst xs m) → IsFirst (x ∷ xs) f
first_after x xs f is rest = by (least xs) refl is
  where
    choose : (m : Fault) → IsFirst xs m → (b : Bool) → precedes m x ≡ b → Some (if b then m else x) ≡ Some f → IsFirst (x ∷ xs) f
    choose m first true before chosen = subst (IsFirst (x ∷ xs)) (same_Some m f chosen) (still_first x m xs first before)
    choose m first false after chosen = subst (IsFirst (x ∷ xs)) (same_Some x f chosen) (now_first x m xs first after)

    by : (o : Option Fault) → least xs ≡ o → lesser (Some x) o ≡ Some f → IsFirst (x ∷ xs) f
    by None none chosen = subst (IsFirst (x ∷ xs)) (same_Some x f chosen) (subst (λ l. IsFirst (x ∷ l) x) (sym (least-none xs none)) (alone_first x))
    by (Some m) some chosen = choose m (rest m some) (precedes m x) refl chosen

least_is_first : (faults : List Fault) (f : Fault) → least faults ≡ Some f → IsFirst faults f
least_is_first [] f is = absurd cc
least_is_first (x ∷ xs) f is = first_after x xs f is (least_is_first xs)

first_is_least : (faults : List Fault) (f : Fault) → IsFirst faults f → least faults ≡ Some f
first_is_least faults f first = by (least faults) refl
  where
    by : (o : Option Fault) → least faults ≡ o → least faults ≡ Some f
    by None none = absurd (none_in_nil f (subst (λ l. Contains l f) (least-none faults none) first.0))
    by (Some m) some =
        let least_first = least_is_first faults m some in
        elim (least_first.1 f first.0) [
          | inl one ↦ some ∙ ap (λ g. Some g) (sym one)
          | inr before ↦ elim (first.1 m least_first.0) [
            | inl one ↦ some ∙ ap (λ g. Some g) one
            | inr after ↦ absurd (not_both m.line (rank m.kind) f.line (rank f.kind) before after)
          ]
        ]

pub least_first : LeastIsFirst
least_first faults f = (least_is_first faults f, first_is_least faults f)
