-- What a step shows: its faults, and propagation where clauses are named in another way.
use Rattle.std.proofs.Common.{◌≡◌, ℕ, List, [], ◌∷◌, map, Result, Ok, Err, refl, ap, ◌∙◌, Bool, true, false, not, leb, sym}
use Rattle.std.specs.List.{list_any}
use Rattle.std.specs.Prelude.{All}
use Rattle.std.proofs.lemmas.Bool.{not-true}
use Rattle.std.proofs.lemmas.List.Elements.{All-head, All-tail}
use Rattle.cudf_lrat.specs.Steps.{PartialAssignment, ClauseStatus, assign_unit, conflict, not_unit, propagate, result_map, status_of, unit, used_by, Derived, denied, derived, greatest_number, is_beyond, is_unnamed, literal_of, named_clause, step_result, values}
use Rattle.cudf_lrat.specs.declared.checker.ProofFault.{ProofFault}
use Rattle.cudf_lrat.specs.declared.cnf.Literal.{Literal}
use Rattle.cudf_lrat.specs.declared.reader.SignedNumber.{SignedNumber}

-- ---- propagation

named_by : (at : ℕ → ℕ) (x : ℕ) (s : ClauseStatus) (a b : Result (List ℕ) ProofFault) → a ≡ result_map (map at) b → used_by (at x) s a ≡ result_map (map at) (used_by x s b)
named_by at x conflict a b same = refl
named_by at x (unit literal) a (Ok used) same = ap (result_map (λ us. at x ∷ us)) same
named_by at x (unit literal) a (Err kind) same = ap (result_map (λ us. at x ∷ us)) same
named_by at x not_unit a b same = refl

pub propagate-named : (f g : ℕ → List Literal) (at : ℕ → ℕ) (known : PartialAssignment) (xs : List ℕ) → All (λ x. f (at x) ≡ g x) xs → propagate f known (map at xs) ≡ result_map (map at) (propagate g known xs)
propagate-named f g at known [] same = refl
propagate-named f g at known (x ∷ xs) same =
    let here : f (at x) ≡ g x = All-head (λ x. f (at x) ≡ g x) x xs same in
    (λ i. used_by (at x) (status_of known (here i)) (propagate f (assign_unit known (status_of known (here i))) (map at xs)))
    ∙ named_by at x (status_of known (g x)) _ _ (propagate-named f g at (assign_unit known (status_of known (g x))) xs (All-tail (λ x. f (at x) ≡ g x) x xs same))

pub result_map-map : {X Y Z : Type 0} (g : Y → Z) (f : X → Y) (r : Result X ProofFault) → result_map g (result_map f r) ≡ result_map (λ x. g (f x)) r
result_map-map g f (Ok x) = refl
result_map-map g f (Err kind) = refl

-- ---- the result

module _ (variables : ℕ) (cnf : List (List Literal)) (steps : List Derived) (number : ℕ) (literals hints : List SignedNumber) where
  pub result-propagated : leb number (greatest_number cnf steps) ≡ false → list_any (is_beyond variables) literals ≡ false → list_any (λ n. n.negative) hints ≡ false → list_any (is_unnamed cnf steps) (values hints) ≡ false
      → step_result variables cnf steps number literals hints ≡ result_map (derived number (map literal_of literals)) (propagate (named_clause cnf steps) (denied (map literal_of literals)) (values hints))
  unfolding step_result
  result-propagated new within plain named = rw (new, within, plain, named) refl

-- ---- tests, from what the code answers

pub within-from : (w : Bool) (limit variables : ℕ) (read literals : List SignedNumber) → limit ≡ variables → read ≡ literals → w ≡ not (list_any (is_beyond limit) read) → w ≡ true → list_any (is_beyond variables) literals ≡ false
within-from w limit variables read literals same is answer holds = (λ i. list_any (is_beyond (sym same i)) (sym is i)) ∙ not-true (list_any (is_beyond limit) read) (sym answer ∙ holds)

pub negative-from : (b : Bool) (read hints : List SignedNumber) → read ≡ hints → b ≡ list_any (λ n. n.negative) read → list_any (λ n. n.negative) hints ≡ b
negative-from b read hints is answer = (λ i. list_any (λ n. n.negative) (sym is i)) ∙ sym answer

pub named-from : (b : Bool) (cnf : List (List Literal)) (steps : List Derived) (read hints : List SignedNumber) → read ≡ hints → b ≡ not (list_any (is_unnamed cnf steps) (values read)) → b ≡ true → list_any (is_unnamed cnf steps) (values hints) ≡ false
named-from b cnf steps read hints is answer holds = (λ i. list_any (is_unnamed cnf steps) (values (sym is i))) ∙ not-true (list_any (is_unnamed cnf steps) (values read)) (sym answer ∙ holds)
