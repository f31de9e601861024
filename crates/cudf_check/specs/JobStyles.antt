-- The style that a job asks for by `--explain`, and its readers by their names: own.
use Rattle.std.specs.Prelude.{ℕ, Bool, false, List, [], Option, Some, None, slice_get, unwrap_or, if◌then◌else◌}
use Rattle.cudf_text.specs.declared.fault.Fault.{Fault}
use Rattle.cudf_text.specs.Joined.{problem_part, solution_part}
use Rattle.cudf_text.specs.Stanzas.{plain_text}
use Rattle.cudf_document.specs.Details.{PlainDetail, fault_detail}
use Rattle.cudf_job.specs.declared.job.Job.{Job}
use Rattle.cudf_job.specs.declared.job.Job.TheVariants.{Lint, Check, Score, Rank, Refute}
use Rattle.cudf_check.specs.Explanations.{listed_in, instance_added, reason_added, detail_added}
use Rattle.cudf_check.specs.Naming.{Names, PlainOrigin, PlainOrigins, entrant_name, entrant_word, name_at, named_before, numbered, one_file, origin_of, own_file, own_files, ranked_origin}
use Rattle.cudf_check.specs.ProofDetails.{proof_added}
use Rattle.cudf_check.specs.Styles.{Document, of_problem, Style, plainly}

-- the job asks for explained lines
abbrev pub explains : Job → Bool
explains (Lint explain) = explain
explains (Check after limit explain) = explain
explains (Refute explain) = explain
explains _ = false

-- the input at an index among the others, empty where there is none
abbrev pub input_at : List (List ℕ) → ℕ → List ℕ
input_at others index = unwrap_or (slice_get others index) []

-- what a document says beside a fault of it, where lines are explained
abbrev pub detail_if : Bool → List ℕ → Fault → Option PlainDetail
detail_if explain bytes f = if explain then fault_detail bytes f else None

-- of the problem, or of the solution
abbrev pub by_document : {A : Type 0} → A → A → Document → A
by_document problem solution of_problem = problem
by_document problem solution _ = solution

-- of a document: lines name its file, if it is given, and none is explained
abbrev pub named_style : Option PlainOrigin → Style
named_style origin = record plainly { prefix = λ document. named_before origin; location = λ document. numbered origin }

-- of a document of these bytes, whose fault is explained or not
abbrev pub document_style : Bool → Option PlainOrigin → List ℕ → Style
document_style explain origin bytes = record (named_style origin) { added_to_fault = λ document f. detail_added origin (detail_if explain bytes f) }

-- and so are instances of a refutation of it, and the fault of a proof of these bytes; no line names a file
abbrev pub refutation_style : Bool → List ℕ → List ℕ → Style
refutation_style explain bytes proof = record (document_style explain None bytes) { added_to_reason = reason_added explain; added_to_proof = proof_added explain proof }

-- of a problem and a solution of these bytes, explained or not
abbrev pub pair_style : Bool → PlainOrigins → List ℕ → List ℕ → Style
pair_style explain origins problem solution = record plainly {
  prefix = λ document. named_before (origin_of origins document);
  location = λ document. numbered (origin_of origins document);
  added_to_fault = λ document f. detail_added (origin_of origins document) (detail_if explain (by_document problem solution document) f);
  added_to_instance = instance_added explain (listed_in origins.solution (plain_text solution).stanzas);
}

-- the second input is the solution; where there is none, the first one is cut
abbrev pub inputs_style : Bool → Names → List ℕ → Option (List ℕ) → Style
inputs_style explain names input None = pair_style explain (one_file (problem_part input) names) (problem_part input) (solution_part input)
inputs_style explain names input (Some solution) = pair_style explain (own_files names) input solution

-- of a ranking: lines name the files of the problem and of the solutions, where they have names
abbrev pub ranking_style : Names → Style
ranking_style names = record plainly {
  prefix = λ document. named_before (ranked_origin names document);
  location = λ document. numbered (ranked_origin names document);
  entrant = λ place. entrant_name (name_at names.others place) place;
  faulty_entrant = λ place. entrant_word (name_at names.others place) place;
}

-- the job's; of a CNF no line names a file
abbrev pub style_of : Job → Names → List ℕ → List (List ℕ) → Style
style_of (Lint explain) names input others = document_style explain (own_file names.first) input
style_of (Check after limit explain) names input others = inputs_style explain names input (slice_get others 0)
style_of (Score aims) names input others = inputs_style false names input (slice_get others 0)
style_of (Rank aims) names input others = ranking_style names
style_of (Refute explain) names input others = refutation_style explain input (input_at others 0)
style_of _ names input others = plainly
