-- Whether one of the numbers of an ascending list meets a bound.
use Rattle.std.proofs.Common.{◌≡◌, ℕ, ◌<◌, ◌≤◌, ◌-◌, Bool, true, false, ◌||◌, ◌==◌, List, length, get_or, Option, Some, None, refl, sym, ap, ◌∙◌, arith, nat_lt}
use Rattle.std.specs.List.{count_by, list_any}
use Rattle.std.specs.Cmp.{both_ways}
use Rattle.std.specs.List.Sorted.{IsNonDecreasing}
use Rattle.std.proofs.Math.Logic.{inl, inr}
use Rattle.std.proofs.lemmas.Bool.{eqb-true, eq-eqb, cases_lt}
use Rattle.std.proofs.lemmas.Bool.Decides.{nat_tests}
use Rattle.std.proofs.lemmas.List.{get_or_default}
use Rattle.std.proofs.lemmas.List.Folds.{list_any_at, Any-from_list_any}
use Rattle.cudf_value.specs.declared.vpkg.Relop.{Relop}
use Rattle.cudf_value.specs.declared.vpkg.Relop.TheVariants.{Eq, Neq, Geq, Gt, Leq, Lt}
use Rattle.cudf_value.specs.Vpkgs.{meets}
use Rattle.cudf_index.proofs.CountLemmas.{any-count}
use Rattle.cudf_index.specs.Working.Ends.{StandsUnder}

-- a bound that isn't met by one number alone is met by an end of what is around a number that meets it
end_met : (bound : Option (Relop × ℕ)) (least n greatest : ℕ) → ((n : ℕ) → bound ≡ Some (Eq, n) → ⊥) → least ≤ n → n ≤ greatest → meets bound n ≡ true → (meets bound least || meets bound greatest) ≡ true
end_met None least n greatest several l g met = refl
end_met (Some (Eq, m)) least n greatest several l g met = absurd (several m refl)
end_met (Some (Neq, m)) least n greatest several l g met = grind (arith, nat_tests)
end_met (Some (Geq, m)) least n greatest several l g met = grind (arith, nat_tests)
end_met (Some (Gt, m)) least n greatest several l g met = grind (arith, nat_tests)
end_met (Some (Leq, m)) least n greatest several l g met = grind (arith, nat_tests)
end_met (Some (Lt, m)) least n greatest several l g met = grind (arith, nat_tests)

pub ends_tell : (bound : Option (Relop × ℕ)) (xs : List ℕ) (least greatest : ℕ) → ((n : ℕ) → bound ≡ Some (Eq, n) → ⊥) → IsNonDecreasing xs → 0 < length xs
    → ((d : ℕ) → least ≡ get_or xs 0 d) → ((d : ℕ) → greatest ≡ get_or xs (length xs - 1) d) → (meets bound least || meets bound greatest) ≡ nat_lt 0 (count_by (meets bound) xs)
ends_tell bound xs least greatest several ordered some first last = both_ways _ _ (there (meets bound least) refl) back ∙ any-count (meets bound) xs
  where
    there : (met : Bool) → meets bound least ≡ met → (met || meets bound greatest) ≡ true → list_any (meets bound) xs ≡ true
    there true is either = list_any_at (meets bound) xs 0 0 some (ap (meets bound) (sym (first 0)) ∙ is)
    there false is either = list_any_at (meets bound) xs (length xs - 1) 0 (omega arith) (ap (meets bound) (sym (last 0)) ∙ either)

    back : list_any (meets bound) xs ≡ true → (meets bound least || meets bound greatest) ≡ true
    back any = let at = Any-from_list_any (meets bound) xs any in
        end_met bound least at.1 greatest several
        (omega (arith, first 0, ordered 0 at.0 0 (omega arith) at.2, get_or_default xs at.0 at.1 0 at.2, at.3))
        (omega (arith, last 0, ordered at.0 (length xs - 1) 0 (omega (arith, at.2)) (omega arith), get_or_default xs at.0 at.1 0 at.2, at.3))
        at.4

-- a number that isn't below the greatest is one of them only where it is the greatest
pub found_last : (xs : List ℕ) (n last : ℕ) → IsNonDecreasing xs → 0 < length xs → ((d : ℕ) → last ≡ get_or xs (length xs - 1) d) → last ≤ n → (last == n) ≡ nat_lt 0 (count_by (λ m. m == n) xs)
found_last xs n last ordered some is most =
    both_ways _ _ (λ same. list_any_at (λ m. m == n) xs (length xs - 1) 0 (omega arith) (ap (λ m. m == n) (sym (is 0)) ∙ same)) back ∙ any-count (λ m. m == n) xs
  where
    back : list_any (λ m. m == n) xs ≡ true → (last == n) ≡ true
    back any =
        let at = Any-from_list_any (λ m. m == n) xs any in
        let there : get_or xs at.0 0 ≡ n = get_or_default xs at.0 0 at.1 at.2 ∙ at.3 ∙ eqb-true at.1 n at.4 in
        eq-eqb last n (omega (arith, is 0, ordered at.0 (length xs - 1) 0 (omega arith) (omega arith), there))

-- one is one of them where it is at its place
pub found_at : (xs : List ℕ) (n high place found : ℕ) → IsNonDecreasing xs → StandsUnder xs n high place → place < length xs → ((d : ℕ) → found ≡ get_or xs place d) → (found == n) ≡ nat_lt 0 (count_by (λ m. m == n) xs)
found_at xs n high place found ordered stands inside is =
    both_ways _ _ (λ same. list_any_at (λ m. m == n) xs place 0 inside (ap (λ m. m == n) (sym (is 0)) ∙ same)) back ∙ any-count (λ m. m == n) xs
  where
    back : list_any (λ m. m == n) xs ≡ true → (found == n) ≡ true
    back any =
        let at = Any-from_list_any (λ m. m == n) xs any in
        let there : get_or xs at.0 0 ≡ n = get_or_default xs at.0 0 at.1 at.2 ∙ at.3 ∙ eqb-true at.1 n at.4 in
        elim (cases_lt at.0 place) [
          | inl less ↦ absurd (omega (arith, stands.below at.0 less, there))
          | inr from ↦ eq-eqb found n (omega (arith, is 0, stands.above place (omega arith) inside, ordered place at.0 0 from at.2, there))
        ]
