-- What a package is needed for is missed without it.
use Rattle.std.proofs.Common.{◌≡◌, ℕ, ◌==◌, Bool, true, false, not, ◌&&◌, ◌||◌, List, [], ◌∷◌, refl, sym, ap, ◌∙◌}
use Rattle.std.specs.List.{list_any}
use Rattle.std.proofs.Math.Bool.{or-false}
use Rattle.std.proofs.lemmas.Bool.{true≢false}
use Rattle.cudf_value.specs.Formulas.{PlainAtom, truth_atom, falsehood_atom, named}
use Rattle.cudf_index.specs.Satisfaction.{Placed, satisfies, satisfies_clause, without, meets_clause_alone}
use Rattle.cudf_index.proofs.SearchLemmas.{list_any-filter}
use Rattle.cudf_referee.specs.Explanations.{is_only}
use Rattle.cudf_referee.specs.Promises.Laws.{NeededIsMissed}
use Rattle.cudf_referee.proofs.NeederLemmas.{and_not, any_more, or_right}
use Rattle.cudf_referee.proofs.RemedyLemmas.{any-or, clause_alone}

-- a clause that the empty status satisfies each one does
pub always : (clause : List PlainAtom) → satisfies_clause [] clause ≡ true → (status : List Placed) → satisfies_clause status clause ≡ true
always [] e status = absurd (true≢false (sym e))
always (truth_atom ∷ atoms) e status = refl
always (falsehood_atom ∷ atoms) e status = always atoms e status
always (named v ∷ atoms) e status = or_right (satisfies status v) (satisfies_clause status atoms) (always atoms e status)

module _ (place : ℕ) where
  -- those that pass are at the place or elsewhere
  parted : (test : Placed → Bool) (status : List Placed)
      → list_any test status ≡ (list_any (λ p. p.0 == place && test p) status || list_any test (without place status))
  parted test status =
      (λ i. list_any (λ p. split (p.0 == place) (test p) i) status)
      ∙ sym (any-or (λ p. p.0 == place && test p) (λ p. not (p.0 == place) && test p) status)
      ∙ ap (λ b. list_any (λ p. p.0 == place && test p) status || b) (sym (list_any-filter test (λ (p : Placed). not (p.0 == place)) status))
    where
      split : (b c : Bool) → c ≡ ((b && c) || (not b && c))
      split true c = sym (or-false c)
      split false c = refl

only_here : (a b c : Bool) → a ≡ (b || c) → (b && not c) ≡ (a && not c)
only_here a b true e = and_not b true refl ∙ sym (and_not a true refl)
only_here a b false e = ap (λ x. x && true) (sym (or-false b) ∙ sym e)

pub needed_is_missed : NeededIsMissed
needed_is_missed status place clause others = by (satisfies_clause [] clause) refl
  where
    rest : List Placed
    rest = without place status

    test : Placed → Bool
    test = meets_clause_alone clause

    here : Bool
    here = list_any (λ p. p.0 == place && test p) status

    by : (b : Bool) → satisfies_clause [] clause ≡ b → is_only status place clause ≡ (satisfies_clause status clause && not (satisfies_clause rest clause))
    by true e =
        let one : list_any (λ p. true) rest ≡ true = list_any-filter (λ p. true) (λ (p : Placed). not (p.0 == place)) status
        ∙ any_more (λ p. not (p.0 == place)) (λ p. not (p.0 == place) && true) (λ p h. ap (λ b. b && true) h) status others in
        and_not here (list_any test rest) (any_more (λ p. true) test (λ p h. always clause e (p ∷ [])) rest one)
        ∙ sym (and_not (satisfies_clause status clause) (satisfies_clause rest clause) (always clause e rest))
    by false e =
        only_here (list_any test status) here (list_any test rest) (parted place test status)
        ∙ (λ i. sym (clause_alone status clause e) i && not (sym (clause_alone rest clause e) i))
