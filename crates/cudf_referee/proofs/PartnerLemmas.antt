-- A clause that some packages don't satisfy among them needs none of them.
use Rattle.std.proofs.Common.{◌≡◌, ℕ, ◌==◌, Bool, true, false, not, ◌&&◌, List, [], refl, sym, ap, ◌∙◌}
use Rattle.std.specs.List.{enumerate_from, list_any}
use Rattle.std.proofs.lemmas.Bool.{true≢false}
use Rattle.cudf_value.specs.Formulas.{PlainAtom}
use Rattle.cudf_problem.specs.Universe.{PlainPackage}
use Rattle.cudf_index.specs.Satisfaction.{Placed, members, satisfies_clause, without, meets_clause_alone}
use Rattle.cudf_index.proofs.SearchLemmas.{list_any-filter}
use Rattle.cudf_referee.specs.Working.Needers.{IsCovered}
use Rattle.cudf_referee.proofs.MissedLemmas.{always}
use Rattle.cudf_referee.proofs.NeederLemmas.{and_both, and_left, and_right, any_more, is_place}
use Rattle.cudf_referee.proofs.RemedyLemmas.{clause_alone}

-- what one of them alone satisfies, they satisfy together
together : (clause : List PlainAtom) (ps : List Placed) → list_any (meets_clause_alone clause) ps ≡ true → satisfies_clause ps clause ≡ true
together clause ps one = by (satisfies_clause [] clause) refl
  where
    by : (b : Bool) → satisfies_clause [] clause ≡ b → satisfies_clause ps clause ≡ true
    by true e = always clause e ps
    by false e = clause_alone ps clause e ∙ one

module _ (holds asked : ℕ → Bool) (packages : List PlainPackage) (place : ℕ) where
  pub is_covered : asked place ≡ true → IsCovered (members holds packages) (members asked packages) place
  is_covered among clause out = by (list_any here (members holds packages)) refl
    where
      all : List Placed
      all = enumerate_from 1 packages

      test : Placed → Bool
      test = meets_clause_alone clause

      here : Placed → Bool
      here p = p.0 == place && test p

      held_is_asked : (p : Placed) → (holds p.0 && here p) ≡ true → (asked p.0 && test p) ≡ true
      held_is_asked p e =
          let at = and_right (holds p.0) (here p) e in
          and_both (asked p.0) (test p) (ap asked (is_place p.0 place (and_left (p.0 == place) (test p) at)) ∙ among) (and_right (p.0 == place) (test p) at)

      together_satisfied : list_any here (members holds packages) ≡ true → satisfies_clause (members asked packages) clause ≡ true
      together_satisfied e =
          together clause (members asked packages)
          (list_any-filter test (λ (p : Placed). asked p.0) all
          ∙ any_more (λ p. holds p.0 && here p) (λ p. asked p.0 && test p) held_is_asked all (sym (list_any-filter here (λ (p : Placed). holds p.0) all) ∙ e))

      by : (b : Bool) → list_any here (members holds packages) ≡ b → (list_any here (members holds packages) && not (list_any test (without place (members holds packages)))) ≡ false
      by true e = absurd (true≢false (sym (together_satisfied e) ∙ out))
      by false e = ap (λ b. b && not (list_any test (without place (members holds packages)))) e
