-- Without explanation and names a job is told plainly.
use Rattle.std.proofs.Common.{◌≡◌, ◌∙◌, ℕ, zero, suc, ◌-◌, Bool, false, List, [], ◌∷◌, Option, Some, None, option_and_then, slice_get, refl, ap, arith}
use Rattle.std.specs.List.{All}
use Rattle.cudf_text.specs.Joined.{problem_part, solution_part}
use Rattle.cudf_text.specs.Stanzas.{plain_text}
use Rattle.cudf_job.specs.declared.job.Job.TheVariants.{Lint, Check, Score, Rank, Cnf, CnfBetter, Refute, RefuteBetter}
use Rattle.cudf_check.specs.Explanations.{detail_added, instance_added, listed_in}
use Rattle.cudf_check.specs.JobStyles.{by_document, detail_if, document_style, input_at, inputs_style, pair_style, ranking_style, refutation_style}
use Rattle.cudf_check.specs.Naming.{Names, PlainOrigins, entrant_name, entrant_word, named_before, numbered, one_file, origin_of, own_file, ranked_origin}
use Rattle.cudf_check.specs.JobReport.{IsToldPlainly, report, styled_report}
use Rattle.cudf_check.specs.Styles.{Document, of_problem, of_solution, of_entrant, plainly}

-- ---- no names

abbrev no_files : PlainOrigins
no_files = record { problem = None; solution = None }

no_origin : (document : Document) → origin_of no_files document ≡ None
no_origin of_problem = refl
no_origin of_solution = refl
no_origin (of_entrant place) = refl

-- none of the others has one
no_name : (others : List (Option (List ℕ))) (index : ℕ) → All (λ name. name ≡ None) others → option_and_then (λ name. name) (slice_get others index) ≡ None
no_name [] index none = refl
no_name (name ∷ others) zero none = none 0 None (omega arith)
no_name (name ∷ others) (suc index) none = no_name others index (λ i d below. none (suc i) d (omega (arith, below)))

none_ranked : (names : Names) → names.first ≡ None → All (λ name. name ≡ None) names.others → (document : Document) → ranked_origin names document ≡ None
none_ranked names first none of_problem = ap own_file first
none_ranked names first none of_solution = ap own_file first
none_ranked names first none (of_entrant place) = ap own_file (no_name names.others (place - 1) none)

-- ---- styles

plain_pair : (problem solution : List ℕ) → pair_style false no_files problem solution ≡ plainly
plain_pair problem solution = λ k. record plainly {
  prefix = λ document. named_before (no_origin document k);
  location = λ document. numbered (no_origin document k);
  added_to_fault = λ document f. detail_added (no_origin document k) (detail_if false (by_document problem solution document) f);
  added_to_instance = instance_added false (listed_in None (plain_text solution).stanzas);
}

plain_inputs : (names : Names) (input : List ℕ) (solution : Option (List ℕ)) (explain : Bool) → explain ≡ false → names.first ≡ None → All (λ name. name ≡ None) names.others
    → inputs_style explain names input solution ≡ plainly
plain_inputs names input None explain is first others =
    (λ k. pair_style (is k) (one_file (problem_part input) (record { first = first k; others = names.others })) (problem_part input) (solution_part input))
    ∙ plain_pair (problem_part input) (solution_part input)
plain_inputs names input (Some solution) explain is first others =
    (λ k. pair_style (is k) (record { problem = own_file (first k); solution = own_file (no_name names.others 0 others k) }) input solution) ∙ plain_pair input solution

plain_ranking : (names : Names) → names.first ≡ None → All (λ name. name ≡ None) names.others → ranking_style names ≡ plainly
plain_ranking names first none = λ k. record plainly {
  prefix = λ document. named_before (none_ranked names first none document k);
  location = λ document. numbered (none_ranked names first none document k);
  entrant = λ place. entrant_name (no_name names.others (place - 1) none k) place;
  faulty_entrant = λ place. entrant_word (no_name names.others (place - 1) none k) place;
}

-- ---- the report

pub told_plainly : IsToldPlainly
unfolding report
told_plainly (Lint explain) mode names input others is first none = λ k. styled_report (document_style (is k) (own_file (first k)) input) (Lint explain) mode input others
told_plainly (Check after limit explain) mode names input others is first none =
    ap (λ style. styled_report style (Check after limit explain) mode input others) (plain_inputs names input (slice_get others 0) explain is first none)
told_plainly (Score aims) mode names input others is first none =
    ap (λ style. styled_report style (Score aims) mode input others) (plain_inputs names input (slice_get others 0) false refl first none)
told_plainly (Rank aims) mode names input others is first none = ap (λ style. styled_report style (Rank aims) mode input others) (plain_ranking names first none)
told_plainly Cnf mode names input others is first none = refl
told_plainly (CnfBetter aims) mode names input others is first none = refl
told_plainly (Refute explain) mode names input others is first none = λ k. styled_report (refutation_style (is k) input (input_at others 0)) (Refute explain) mode input others
told_plainly (RefuteBetter aims) mode names input others is first none = refl
