-- The first fault of a document, by its bytes and by its text, and the report where none is left.
use Rattle.std.proofs.Common.{◌≡◌, ℕ, ◌-◌, ◌==◌, Bool, true, false, List, ◌++◌, map, length, slice_get, option_map, option_and_then, Option, Some, None, Result, Ok, Err, IfOk, IfErr, IfSome, if◌then◌else◌, refl, subst, sym, ap, ◌∙◌, codes, ◌⊎◌, inl, inr, Vec, Global}
use Rattle.std.proofs.lemmas.Option.{slice_get-map}
use Rattle.std.specs.Str.{IsUtf8, is_utf8}
use Rattle.std.proofs.lemmas.Str.{IsUtf8-from_is_utf8, is_utf8-from_IsUtf8}
use Rattle.cudf_text.specs.declared.fault.Fault.{Fault}
use Rattle.cudf_text.specs.Joined.{is_fail}
use Rattle.cudf_text.specs.LineFaults.{utf8_fault}
use Rattle.cudf_text.specs.Stanzas.{PlainStanza, PlainText, plain_text}
use Rattle.cudf_document.specs.declared.fault.ReadError.{ReadError}
use Rattle.cudf_document.specs.declared.fault.ReadError.TheVariants as read_error
use Rattle.cudf_problem.specs.declared.problem.Mode.{Mode}
use Rattle.cudf_document.specs.Faults.{least}
use Rattle.cudf_document.specs.ProblemFaults.{problem_faults}
use Rattle.cudf_document.specs.SolutionFaults.{solution_faults}
use Rattle.cudf_document.specs.Promises.Faults.{IsFirstFault}
use Rattle.cudf_problem.specs.Statuses.{PlainUnknown, is_initial, is_proposed, unknown_stanzas}
use Rattle.cudf_problem.specs.Documents.{is_empty}
use Rattle.cudf_problem.specs.Universe.{PlainPackage, PlainProblem}
use Rattle.cudf_document.specs.Details.{stanza_line}
use Rattle.cudf_job.specs.declared.criteria.Aim.{Aim}
use Rattle.cudf_job.specs.declared.job.Job.{Job}
use Rattle.cudf_job.specs.declared.job.Job.TheVariants.{Lint, Check, Score, Rank, Cnf, CnfBetter, Refute, RefuteBetter}
use Rattle.cudf_job.specs.declared.key.Key.{Key}
use Rattle.cudf_job.specs.KeyViews.{key_view}
use Rattle.cudf_referee.specs.Proposals.{Proposal, proposal}
use Rattle.cudf_referee.specs.Solutions.{is_solution}
use Rattle.cudf_referee.specs.Violations.{listing, met_by}
use Rattle.cudf_lrat.specs.Answers.{PlainAnswer, checked, faulty, refuted}
use Rattle.cudf_cnf.specs.Cnf.{clauses_of, cnf, is_too_large}
use Rattle.cudf_device.specs.Outcomes.{Report}
use Rattle.cudf_device.specs.declared.outcome.Outcome.TheVariants.{Fail}
use Rattle.cudf_check.specs.BetterReport.{better_report, cnf_better, refute_better}
use Rattle.cudf_check.specs.JobStyles.{explains, input_at, inputs_style, pair_style, ranking_style, refutation_style}
use Rattle.cudf_check.specs.RankReport.{solutions_report}
use Rattle.cudf_check.specs.Explanations.{listed_in, listed_text, met_added}
use Rattle.cudf_check.specs.Naming.{Names, PlainOrigin, PlainOrigins, name_at, own_file}
use Rattle.cudf_check.specs.JobReport.{inputs_report, report}
use Rattle.cudf_check.specs.Report.{alone, check_text, core_text, verdict, problem_fault, solution_fault, proposal_of, judged_report, problem_report, solution_report, proof_report, refute_answer, unless_too_large}
use Rattle.cudf_check.specs.Styles.{Style, of_solution, plainly}
use Rattle.cudf_check.specs.Working.Found.{found_text}
use Rattle.cudf_check.specs.Working.Named.{instance_style, listed_by, other_names, proof_style}
use Rattle.cudf_check.specs.declared.naming.NamedInput.{NamedInput}
use Rattle.cudf_check.specs.Working.Unjudged.{IsFaultOf, faulty_or}
use Rattle.cudf_check.proofs.PageLemmas.{no-page}

-- ---- what a result says

pub ok_map : {T E : Type 0} {P Q : T → Type 0} (result : Result T E) → ((x : T) → P x → Q x) → IfOk result P → IfOk result Q
ok_map (Ok x) f h = f x h
ok_map (Err e) f h = tt

pub err_map : {T E : Type 0} {P Q : E → Type 0} (result : Result T E) → ((e : E) → P e → Q e) → IfErr result P → IfErr result Q
err_map (Ok x) f h = tt
err_map (Err e) f h = f e h

-- ---- first faults

pub not_utf8 : (bytes : List ℕ) → (IsUtf8 bytes → ⊥) → is_utf8 bytes ≡ false
not_utf8 bytes other = by (is_utf8 bytes) refl
  where
    by : (b : Bool) → is_utf8 bytes ≡ b → is_utf8 bytes ≡ false
    by true is = absurd (other (IsUtf8-from_is_utf8 bytes is))
    by false is = is

-- the first fault of a text
pub first_of : (faults : List Fault) (fault : Option Fault) → least faults ≡ fault → (e : ReadError) → IsFirstFault faults e → IsFaultOf fault e
first_of faults fault same (read_error.Fault f) first = sym same ∙ first
first_of faults fault same (read_error.Memory e) first = tt

module _ (mode : Mode) (bytes : List ℕ) where
  problem_by : Bool → Option Fault
  problem_by b = if b then least (problem_faults (plain_text bytes) mode) else Some (utf8_fault bytes)

  pub problem_read : (text : PlainText) → IsUtf8 bytes → text ≡ plain_text bytes → least (problem_faults text mode) ≡ problem_fault mode bytes
  unfolding problem_by
  problem_read text utf8 is = ap (λ t. least (problem_faults t mode)) is ∙ ap problem_by (sym (is_utf8-from_IsUtf8 bytes utf8))

  pub problem_unread : (f : Fault) → (IsUtf8 bytes → ⊥) → f ≡ utf8_fault bytes → problem_fault mode bytes ≡ Some f
  unfolding problem_by
  problem_unread f other is = ap problem_by (not_utf8 bytes other) ∙ ap Some (sym is)

module _ (mode : Mode) (names : List (List ℕ)) (bytes : List ℕ) where
  solution_by : Bool → Bool → Option Fault
  solution_by a b = if a then (if b then None else least (solution_faults (plain_text bytes) mode names)) else Some (utf8_fault bytes)

  pub solution_read : (text : PlainText) → IsUtf8 bytes → is_fail bytes ≡ false → text ≡ plain_text bytes → least (solution_faults text mode names) ≡ solution_fault mode names bytes
  unfolding solution_by
  solution_read text utf8 goes_on is = ap (λ t. least (solution_faults t mode names)) is ∙ (λ k. solution_by (sym (is_utf8-from_IsUtf8 bytes utf8) k) (sym goes_on k))

  pub solution_fails : IsUtf8 bytes → is_fail bytes ≡ true → solution_fault mode names bytes ≡ None
  unfolding solution_by
  solution_fails utf8 fails = λ k. solution_by (is_utf8-from_IsUtf8 bytes utf8 k) (fails k)

  pub solution_unread : (f : Fault) → (IsUtf8 bytes → ⊥) → f ≡ utf8_fault bytes → solution_fault mode names bytes ≡ Some f
  unfolding solution_by
  solution_unread f other is = ap (λ a. solution_by a (is_fail bytes)) (not_utf8 bytes other) ∙ ap Some (sym is)

-- ---- the report

-- what a text puts forward for a problem
pub put_forward : (problem : PlainProblem) (text : PlainText) (contains : ℕ → Bool) (unknown : List PlainUnknown)
    → ((place : ℕ) → contains place ≡ is_proposed problem text.stanzas place) → unknown ≡ unknown_stanzas problem text.stanzas
    → proposal problem (is_initial problem) contains unknown ≡ proposal_of problem text
put_forward problem text contains unknown status others = λ k. proposal problem (is_initial problem) (λ place. status place k) (others k)

-- the solution has no fault, and doesn't say FAIL
pub solution_judged : (style : Style) (mode : Mode) (found : Proposal → List ℕ) (problem : PlainProblem) (solution : List ℕ) (s : Proposal)
    → solution_fault mode problem.extra_names solution ≡ None → is_fail solution ≡ false → s ≡ proposal_of problem (plain_text solution)
    → judged_report found s ≡ solution_report style mode found problem solution
solution_judged style mode found problem solution s sound goes_on is =
    ap (judged_report found) is
    ∙ (λ k. faulty_or style of_solution (codes "solution") (sym sound k)
    (if sym goes_on k then alone (codes "solution FAIL") Fail else judged_report found (proposal_of problem (plain_text solution))))

-- at each place the lines say what the stanzas do
lines_say : (origin : Option PlainOrigin) (problem : PlainProblem) (stanzas : List PlainStanza) (lines : List (Option ℕ)) → lines ≡ map (stanza_line stanzas) problem.packages
    → (place : ℕ) → listed_by origin lines place ≡ listed_in origin stanzas problem place
lines_say origin problem stanzas lines are place = ap (λ ls. listed_by origin ls place) are ∙ ap (listed_text origin) (by (place == 0))
  where
    through : (o : Option PlainPackage) → option_and_then (λ n. n) (option_map (stanza_line stanzas) o) ≡ option_and_then (stanza_line stanzas) o
    through None = refl
    through (Some p) = refl

    by : (b : Bool) → (if b then None else option_and_then (λ n. n) (slice_get (map (stanza_line stanzas) problem.packages) (place - 1)))
        ≡ option_and_then (stanza_line stanzas) (if b then None else slice_get problem.packages (place - 1))
    by true = refl
    by false = ap (option_and_then (λ n. n)) (slice_get-map (stanza_line stanzas) problem.packages (place - 1)) ∙ through (slice_get problem.packages (place - 1))

-- what is found says nothing of faults, so of the documents' bytes only the solution's stanzas count, and these only where
-- lines are explained and there is a line
pub found_same : (job : Job) (explain : Bool) (origins : PlainOrigins) (problem solution : List ℕ) (lines : List (Option ℕ)) (s : Proposal)
    → (explain ≡ true → is_empty (listing s) ≡ false → lines ≡ map (stanza_line (plain_text solution).stanzas) s.problem.packages)
    → found_text job (instance_style explain origins lines) s ≡ found_text job (pair_style explain origins problem solution) s
found_same (Lint flag) explain origins problem solution lines s are = refl
found_same (Check after limit flag) false origins problem solution lines s are = refl
found_same (Check after limit flag) true origins problem solution lines s are = by (is_empty (listing s)) refl
  where
    by : (b : Bool) → is_empty (listing s) ≡ b → check_text (instance_style true origins lines) (option_map key_view after) limit s ≡ check_text (pair_style true origins problem solution) (option_map key_view after) limit s
    by true none = no-page (instance_style true origins lines) s (option_map key_view after) limit none ∙ sym (no-page (pair_style true origins problem solution) s (option_map key_view after) limit none)
    by false some = λ k. check_text (record (pair_style true origins problem solution) {
      added_to_instance = λ t i. met_added true (λ place. lines_say origins.solution s.problem (plain_text solution).stanzas lines (are refl some) place k) s i (met_by s.proposed i);
    }) (option_map key_view after) limit s
found_same (Score aims) explain origins problem solution lines s are = refl
found_same (Rank aims) explain origins problem solution lines s are = refl
found_same Cnf explain origins problem solution lines s are = refl
found_same (CnfBetter aims) explain origins problem solution lines s are = refl
found_same (Refute flag) explain origins problem solution lines s are = refl
found_same (RefuteBetter aims) explain origins problem solution lines s are = refl

-- the same report
pub judged_same : (job : Job) (explain : Bool) (origins : PlainOrigins) (problem solution : List ℕ) (lines : List (Option ℕ)) (s : Proposal)
    → (explain ≡ true → is_empty (listing s) ≡ false → lines ≡ map (stanza_line (plain_text solution).stanzas) s.problem.packages)
    → judged_report (found_text job (instance_style explain origins lines)) s ≡ judged_report (found_text job (pair_style explain origins problem solution)) s
judged_same job explain origins problem solution lines s are = λ k. record {
  text = found_same job explain origins problem solution lines s are k ++ (verdict (is_solution s)).text;
  outcome = (verdict (is_solution s)).outcome;
}

-- of the others only the first one's text and name count
pub first_style : (mode : Mode) (explain : Bool) (found : Style → Proposal → List ℕ) (first : Option (List ℕ)) (names : List (Option (List ℕ))) (input : List ℕ) (second : Option NamedInput) (text : Option (List ℕ))
    → option_map (λ (g : NamedInput). g.bytes.now) second ≡ text → IfSome second (λ g. option_map (λ n. n.now) g.name ≡ name_at names 1)
    → (let bytes = option_map (λ (g : NamedInput). g.bytes.now) second in let style = inputs_style explain (record { first = first; others = other_names second }) input bytes in inputs_report style mode (found style) input bytes)
    ≡ (let style = inputs_style explain (record { first = first; others = names }) input text in inputs_report style mode (found style) input text)
first_style mode explain found first names input None text is same =
    λ k. let style = inputs_style explain (record { first = first; others = names }) input (is k) in inputs_report style mode (found style) input (is k)
first_style mode explain found first names input (Some g) text is same =
    (λ k. let style = pair_style explain (record { problem = own_file first; solution = own_file (same k) }) input g.bytes.now in inputs_report style mode (found style) input (Some g.bytes.now))
    ∙ (λ k. let style = inputs_style explain (record { first = first; others = names }) input (is k) in inputs_report style mode (found style) input (is k))

-- the report of inputs of which a solution is judged
abbrev judged_inputs : Job → Mode → Names → List ℕ → List (List ℕ) → Report
judged_inputs job mode names input others = let style = inputs_style (explains job) names input (slice_get others 0) in inputs_report style mode (found_text job style) input (slice_get others 0)

-- a job that judges a solution has it
pub pair_of : (job : Job) (mode : Mode) (names : Names) (input : List ℕ) (others : List (List ℕ))
    → ((after : Option Key) × (limit : Option ℕ) × (explain : Bool) × (job ≡ Check after limit explain)) ⊎ ((aims : Option (Vec Aim Global)) × (job ≡ Score aims))
    → judged_inputs job mode names input others ≡ report job mode names input others
unfolding report
pair_of job mode names input others (inl check) = subst (λ j. judged_inputs j mode names input others ≡ report j mode names input others) (sym check.3) refl
pair_of job mode names input others (inr score) = subst (λ j. judged_inputs j mode names input others ≡ report j mode names input others) (sym score.1) refl

-- so do one that ranks solutions, and one that checks a proof
pub rank_of : (aims : Vec Aim Global) (job : Job) (mode : Mode) (names : Names) (input : List ℕ) (others : List (List ℕ)) → job ≡ Rank aims → (list : List Aim) → list ≡ aims.items
    → problem_report (ranking_style names) mode input (λ p. solutions_report (ranking_style names) list mode p others) ≡ report job mode names input others
unfolding report
rank_of aims job mode names input others is list list_is =
    (λ k. problem_report (ranking_style names) mode input (λ p. solutions_report (ranking_style names) (list_is k) mode p others))
    ∙ subst (λ j. problem_report (ranking_style names) mode input (λ p. solutions_report (ranking_style names) aims.items mode p others) ≡ report j mode names input others) (sym is) refl

pub refute_of : (explain : Bool) (job : Job) (mode : Mode) (names : Names) (input : List ℕ) (others : List (List ℕ)) → job ≡ Refute explain → (proof : List ℕ) → proof ≡ input_at others 0
    → problem_report (refutation_style explain input proof) mode input (refute_answer (refutation_style explain input proof) proof) ≡ report job mode names input others
unfolding report
refute_of explain job mode names input others is proof proof_is =
    (λ k. problem_report (refutation_style explain input (proof_is k)) mode input (refute_answer (refutation_style explain input (proof_is k)) (proof_is k)))
    ∙ subst (λ j. problem_report (refutation_style explain input (input_at others 0)) mode input (refute_answer (refutation_style explain input (input_at others 0)) (input_at others 0)) ≡ report j mode names input others) (sym is) refl

-- and so does one that asks for a better solution
pub cnf_better_of : (aims : Vec Aim Global) (job : Job) (mode : Mode) (names : Names) (input : List ℕ) (others : List (List ℕ)) → job ≡ CnfBetter aims
    → (list : List Aim) → list ≡ aims.items → (solution : List ℕ) → solution ≡ input_at others 0
    → problem_report plainly mode input (better_report plainly mode (cnf_better list) solution) ≡ report job mode names input others
unfolding report
cnf_better_of aims job mode names input others is list list_is solution solution_is =
    (λ k. problem_report plainly mode input (better_report plainly mode (cnf_better (list_is k)) (solution_is k)))
    ∙ subst (λ j. problem_report plainly mode input (better_report plainly mode (cnf_better aims.items) (input_at others 0)) ≡ report j mode names input others) (sym is) refl

pub refute_better_of : (aims : Vec Aim Global) (job : Job) (mode : Mode) (names : Names) (input : List ℕ) (others : List (List ℕ)) → job ≡ RefuteBetter aims
    → (list : List Aim) → list ≡ aims.items → (proof : List ℕ) → proof ≡ input_at others 0 → (solution : List ℕ) → solution ≡ input_at others 1
    → problem_report plainly mode input (better_report plainly mode (refute_better plainly list proof) solution) ≡ report job mode names input others
unfolding report
refute_better_of aims job mode names input others is list list_is proof proof_is solution solution_is =
    (λ k. problem_report plainly mode input (better_report plainly mode (refute_better plainly (list_is k) (proof_is k)) (solution_is k)))
    ∙ subst (λ j. problem_report plainly mode input (better_report plainly mode (refute_better plainly aims.items (input_at others 0)) (input_at others 1)) ≡ report j mode names input others) (sym is) refl

-- the same of what is answered of a proof
abbrev answered_by : PlainProblem → Style → PlainAnswer → Report
answered_by problem style = proof_report style (length (clauses_of (cnf problem))) (core_text style problem)

pub refuted_same : (explain : Bool) (bytes proof : List ℕ) (problem : PlainProblem) → refute_answer (proof_style explain proof) proof problem ≡ refute_answer (refutation_style explain bytes proof) proof problem
refuted_same explain bytes proof problem = ap (unless_too_large (is_too_large problem)) (by (checked (length problem.packages) (clauses_of (cnf problem)) proof))
  where
    by : (answer : PlainAnswer) → answered_by problem (proof_style explain proof) answer ≡ answered_by problem (refutation_style explain bytes proof) answer
    by (faulty number kind) = refl
    by (refuted core) = refl
