-- One more solution is judged.
use Rattle.std.proofs.Common.{◌≡◌, ℕ, zero, suc, ◌+◌, ◌<◌, ◌≤◌, ◌==◌, Bool, true, false, not, eqb-true, List, [], ◌∷◌, ◌++◌, length, map, drop, get_or, Some, option_map, slice_get, refl, sym, ap, ◌∙◌, append_assoc, append-nil, arith}
use Rattle.std.proofs.lemmas.Bool.{and_from as both}
use Rattle.std.specs.List.{filter_map, cons_option, enumerate_from, list_all}
use Rattle.cudf_problem.specs.declared.problem.Mode.{Mode}
use Rattle.cudf_text.specs.declared.fault.Fault.{Fault}
use Rattle.cudf_document.specs.declared.fault.ReadError.{ReadError}
use Rattle.cudf_document.specs.declared.fault.ReadError.TheVariants as read_error
use Rattle.cudf_problem.specs.Universe.{PlainProblem}
use Rattle.cudf_check.specs.RankReport.{placed_faults, entrants}
use Rattle.cudf_check.specs.Report.{solution_fault}
use Rattle.cudf_check.specs.Working.Judged.{IsJudged, AreJudged, IsFaultAt, entrant_of, placed_fault}
use Rattle.cudf_check.specs.Working.Unjudged.{IsFaultOf}
use Rattle.cudf_job.specs.Ranking.{have_own_places}
use Rattle.cudf_job.specs.declared.ranking.Judgement.{Judgement}
use Rattle.cudf_job.specs.declared.ranking.Entrant.{Entrant}

-- those that are left, with their places
abbrev pub left : {A : Type 0} → (A → List ℕ) → List A → ℕ → List (ℕ × List ℕ)
left view xs n = enumerate_from (n + 1) (map view (drop n xs))

-- those so far have no fault, and these are their entrants
pub record JudgedSoFar {A : Type 0} (mode : Mode) (problem : PlainProblem) (view : A → List ℕ) (xs : List A) (n : ℕ) (ss : List Entrant) : Type 0 where
  pub found : ss ++ map (entrant_of problem) (left view xs n) ≡ entrants problem (map view xs)
  pub sound : placed_faults mode problem (map view xs) ≡ filter_map (placed_fault mode problem) (left view xs n)

pub none_judged : {A : Type 0} (mode : Mode) (problem : PlainProblem) (view : A → List ℕ) (xs : List A) → JudgedSoFar mode problem view xs 0 []
none_judged mode problem view xs = record { found = refl; sound = refl }

module _ {A : Type 0} (mode : Mode) (problem : PlainProblem) (view : A → List ℕ) (xs : List A) (n : ℕ) (d : A) (ss : List Entrant) (below : n < length xs) (m : JudgedSoFar mode problem view xs n ss) where
  -- the one at the turn, and those after it
  behind : left view xs n ≡ (n + 1, view (get_or xs n d)) ∷ left view xs (n + 1)
  behind = ap (λ ys. enumerate_from (n + 1) (map view ys)) (left_is xs n d below ∙ (λ k. get_or xs n d ∷ drop (next k) xs))
    where
      next : suc n ≡ n + 1
      next = omega arith

      left_is : {A : Type 0} (xs : List A) (n : ℕ) (d : A) → n < length xs → drop n xs ≡ get_or xs n d ∷ drop (suc n) xs
      left_is [] n d below = absurd (omega arith)
      left_is (x ∷ xs) zero d below = refl
      left_is (x ∷ xs) (suc n) d below = left_is xs n d (omega arith)

  pub judged_more : (j : Judgement) (new : List Entrant) (place : ℕ) → place ≡ n + 1 → IsJudged mode problem (view (get_or xs n d)) j
      → new ≡ ss ++ (record { place = place; judgement = j }) ∷ [] → JudgedSoFar mode problem view xs (n + 1) new
  judged_more j new place at is pushed = record {
    found =
        ap (λ ys. ys ++ map (entrant_of problem) (left view xs (n + 1))) (pushed ∙ (λ k. ss ++ (record { place = at k; judgement = is.found k }) ∷ []))
        ∙ append_assoc ss (entrant_of problem (n + 1, view (get_or xs n d)) ∷ []) (map (entrant_of problem) (left view xs (n + 1)))
        ∙ ap (λ ys. ss ++ map (entrant_of problem) ys) (sym behind) ∙ m.found;
    sound = m.sound ∙ ap (filter_map (placed_fault mode problem)) behind
        ∙ ap (λ f. cons_option (option_map (λ f. (n + 1, f)) f) (filter_map (placed_fault mode problem) (left view xs (n + 1)))) is.sound;
  }

  pub faulty_here : (place : ℕ) → place ≡ n + 1 → (f : Fault) → solution_fault mode problem.extra_names (view (get_or xs n d)) ≡ Some f
      → slice_get (placed_faults mode problem (map view xs)) 0 ≡ Some (place, f)
  faulty_here place at f is = ap (λ fs. slice_get fs 0) (m.sound ∙ ap (filter_map (placed_fault mode problem)) behind
      ∙ ap (λ o. cons_option (option_map (λ f. (n + 1, f)) o) (filter_map (placed_fault mode problem) (left view xs (n + 1)))) is) ∙ (λ k. Some (sym at k, f))

pub all_judged : {A : Type 0} (mode : Mode) (problem : PlainProblem) (view : A → List ℕ) (xs : List A) (n : ℕ) (ss : List Entrant) → length xs ≤ n
    → JudgedSoFar mode problem view xs n ss → AreJudged mode problem (map view xs) ss
all_judged mode problem view xs n ss end m = record {
  found = sym (append-nil ss) ∙ ap (λ ys. ss ++ map (entrant_of problem) (enumerate_from (n + 1) (map view ys))) (sym (none_left xs n end)) ∙ m.found;
  sound = m.sound ∙ ap (λ ys. filter_map (placed_fault mode problem) (enumerate_from (n + 1) (map view ys))) (none_left xs n end);
}
  where
    none_left : {A : Type 0} (xs : List A) (n : ℕ) → length xs ≤ n → drop n xs ≡ []
    none_left [] zero end = refl
    none_left [] (suc n) end = refl
    none_left (x ∷ xs) zero end = absurd (omega arith)
    none_left (x ∷ xs) (suc n) end = none_left xs n (omega arith)

-- ---- the first that is faulty

pub faulty_at : {A : Type 0} (mode : Mode) (problem : PlainProblem) (view : A → List ℕ) (xs : List A) (n : ℕ) (d : A) (ss : List Entrant) → n < length xs → JudgedSoFar mode problem view xs n ss
    → (bytes : List ℕ) → bytes ≡ view (get_or xs n d) → (e : ReadError) → IsFaultOf (solution_fault mode problem.extra_names bytes) e → IsFaultAt mode problem (map view xs) (n + 1) e
faulty_at mode problem view xs n d ss below m bytes same (read_error.Memory e) first = tt
faulty_at mode problem view xs n d ss below m bytes same (read_error.Fault f) first =
    faulty_here mode problem view xs n d ss below m (n + 1) refl f (ap (solution_fault mode problem.extra_names) (sym same) ∙ first)

-- ---- the places of a problem's solutions

later_places : (problem : PlainProblem) (m n : ℕ) (solutions : List (List ℕ)) → m < n → list_all (λ y. not (m == y.place)) (map (entrant_of problem) (enumerate_from n solutions)) ≡ true
later_places problem m n [] below = refl
later_places problem m n (bytes ∷ more) below = both (not (m == n)) (list_all (λ y. not (m == y.place)) (map (entrant_of problem) (enumerate_from (n + 1) more))) (by (m == n) refl)
    (later_places problem m (n + 1) more (omega arith))
  where
    by : (b : Bool) → (m == n) ≡ b → not b ≡ true
    by true is = let same = eqb-true m n is in absurd (omega (arith, same))
    by false is = refl

pub entrants_own : (problem : PlainProblem) (n : ℕ) (solutions : List (List ℕ)) → have_own_places (map (entrant_of problem) (enumerate_from n solutions)) ≡ true
entrants_own problem n [] = refl
entrants_own problem n (bytes ∷ more) = both (list_all (λ y. not (n == y.place)) (map (entrant_of problem) (enumerate_from (n + 1) more))) (have_own_places (map (entrant_of problem) (enumerate_from (n + 1) more)))
    (later_places problem n (n + 1) more (omega arith)) (entrants_own problem (n + 1) more)
