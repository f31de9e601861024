-- What is written with `Yes` means what it is to.
use Rattle.std.proofs.Common.{append-nil, filter, ◌≡◌, ◌<◌, ◌-◌, ◌||◌, inl, inr, ℕ, zero, suc, Bool, true, false, List, [], ◌∷◌, ◌++◌, length, map, filter_map, slice_get, get_or, Option, Some, None, option_map, Result, Ok, Err, IfOk, Contains, codes, refl, ap, sym, subst, ◌∙◌, arith, if◌then◌else◌}
use Rattle.std.specs.List.{AllZip, cons_option, flat_map, list_any}
use Rattle.std.specs.Io.KnownBytes.{Appends}
use Rattle.std.specs.Str.{is_utf8}
use Rattle.std.specs.Option.{option_map_or}
use Rattle.std.proofs.lemmas.List.Elements.{Contains-append_left}
use Rattle.std.proofs.lemmas.List.Sorted.{list_any-IsPermutation}
use Rattle.cudf_text.specs.declared.fault.Fault.{Fault}
use Rattle.cudf_text.specs.Joined.{is_fail}
use Rattle.cudf_text.specs.LineFaults.{utf8_fault}
use Rattle.cudf_text.specs.Stanzas.{PlainText, plain_text}
use Rattle.cudf_problem.specs.declared.problem.Mode.{Mode}
use Rattle.cudf_problem.specs.Statuses.{PlainUnknown}
use Rattle.cudf_problem.specs.Promises.Packages.{are_distinct}
use Rattle.cudf_problem.specs.Universe.{PlainProblem, package_id, plain_problem}
use Rattle.cudf_document.specs.Faults.{least}
use Rattle.cudf_document.specs.ProblemFaults.{problem_faults}
use Rattle.cudf_document.proofs.FaultLemmas.{least-none}
use Rattle.cudf_document.proofs.FaultlessLemmas.{ids_distinct}
use Rattle.cudf_job.specs.Keys.{PlainKey}
use Rattle.cudf_job.specs.declared.criteria.Aim.{Aim}
use Rattle.cudf_job.specs.declared.criteria.Criteria.{Criteria}
use Rattle.cudf_job.specs.declared.job.Job.{Job}
use Rattle.cudf_job.specs.declared.ranking.Judgement.TheVariants.{Solution, NoSolution, SaysFail}
use Rattle.cudf_job.specs.declared.job.Job.TheVariants.{Lint, Check, Score, Rank, Cnf, CnfBetter, Refute, RefuteBetter}
use Rattle.cudf_lrat.specs.Answers.{PlainAnswer, checked, faulty, refuted}
use Rattle.cudf_lrat.specs.Laws.{RefutedIsCore}
use Rattle.cudf_lrat.specs.Literals.{PlainCnf}
use Rattle.cudf_better.specs.Encodings.{better_cnf}
use Rattle.cudf_better.specs.Encodings as better_encodings
use Rattle.cudf_better.specs.Laws.{BetterSatisfies, RefutedIsBest}
use Rattle.cudf_cnf.specs.Cnf.{Keyed, clauses_of, cnf, is_too_large}
use Rattle.cudf_cnf.specs.Laws.{SolutionSatisfies, proposed}
use Rattle.cudf_cnf.proofs.LawLemmas.{falls, listing_falls, refuted_are_violated}
use Rattle.cudf_cnf.proofs.OrderLemmas.{keys_never_descend}
use Rattle.cudf_cnf.proofs.TestLemmas.{or_left, or_right}
use Rattle.cudf_referee.specs.Criteria.{criteria}
use Rattle.cudf_referee.specs.Instances.{PlainInstance}
use Rattle.cudf_referee.specs.Proposals.{Proposal}
use Rattle.cudf_referee.specs.Solutions.{is_solution}
use Rattle.cudf_referee.specs.Violations.{instance_of, listing, problem_instances, unknown_instance}
use Rattle.cudf_referee.proofs.KeyedLemmas.{instance-found}
use Rattle.cudf_referee.proofs.WhereLemmas.{listed_is_of_problem}
use Rattle.cudf_reasons.specs.Reasons.{Instance, PlainReason, core_of, grouped, reason_of, reasons_of, same_key, with_clause}
use Rattle.cudf_reasons.specs.Views.{Told, told_as}
use Rattle.cudf_reasons.proofs.KeyOrderLemmas.{same_is, same_itself}
use Rattle.cudf_reasons.proofs.LawLemmas.{each_told_once}
use Rattle.cudf_device.specs.Device.{SinkState, SourceState}
use Rattle.cudf_device.specs.Readers.{Change, OfOne, ReadsAll}
use Rattle.cudf_check.specs.BetterReport.{best_text, better_report, cnf_better, judged_as, refute_better}
use Rattle.cudf_check.specs.JobReport.{report}
use Rattle.cudf_check.specs.JobStyles.{input_at, refutation_style}
use Rattle.cudf_check.specs.Meanings.{Encodes, EncodesBetter, IsBest, Means, Refutes, put_forward}
use Rattle.cudf_check.specs.Naming.{Names}
use Rattle.cudf_check.specs.RankReport.{judgement}
use Rattle.cudf_check.specs.Runs.{HasRead}
use Rattle.cudf_check.specs.Report.{checked_report, cnf_answer, core_text, dimacs, line, needed, problem_fault, problem_report, proof_report, proposal_of, reason_line, refute_answer, rules_of, solution_fault, told_line, unless_too_large, with_yes}
use Rattle.cudf_check.specs.Styles.{Style, of_problem, of_solution, plainly}
use Rattle.cudf_check.specs.Working.Unjudged.{faulty_or}
use Rattle.cudf_device.specs.Outcomes.{Report}
use Rattle.cudf_device.specs.Promises.Answering.{Answers}
use Rattle.cudf_device.specs.declared.outcome.Outcome.{Outcome}
use Rattle.cudf_device.specs.declared.outcome.Outcome.TheVariants.{Yes}
use Rattle.cudf_device.specs.declared.outcome.RunError.{RunError}
use Rattle.cudf_check.proofs.CoreLemmas.{core_by_key}

-- ---- each needed clause has a reason

same_or : (a b : Bool) → a ≡ b → (rest : Bool) → (a || rest) ≡ (a || (b || rest))
same_or true b same rest = refl
same_or false true same rest = cc
same_or false false same rest = refl

any_with : (t : PlainKey → Bool) (n : Keyed) (instances : List Instance) → list_any (λ i. t i.key) (with_clause n instances) ≡ (t n.0 || list_any (λ i. t i.key) instances)
any_with t n [] = refl
any_with t n (first ∷ later) = by (same_key n.0 first.key) refl
  where
    by : (b : Bool) → same_key n.0 first.key ≡ b
        → list_any (λ (i : Instance). t i.key) (if b then (record { key = n.0; clauses = n.1 ∷ first.clauses }) ∷ later else (record { key = n.0; clauses = n.1 ∷ [] }) ∷ first ∷ later)
        ≡ (t n.0 || (t first.key || list_any (λ i. t i.key) later))
    by true is = same_or (t n.0) (t first.key) (ap t (same_is n.0 first.key is)) (list_any (λ i. t i.key) later)
    by false is = refl

any_grouped : (t : PlainKey → Bool) (ns : List Keyed) → list_any (λ i. t i.key) (grouped ns) ≡ list_any (λ n. t n.0) ns
any_grouped t [] = refl
any_grouped t (n ∷ ns) = any_with t n (grouped ns) ∙ ap (λ b. t n.0 || b) (any_grouped t ns)

any_reason : (t : PlainKey → Bool) (instances : List Instance) → list_any (λ r. t r.key) (map reason_of instances) ≡ list_any (λ i. t i.key) instances
any_reason t [] = refl
any_reason t (i ∷ instances) = ap (λ b. t i.key || b) (any_reason t instances)

any_told : (t : PlainKey → Bool) (reasons : List PlainReason) → list_any (λ r. t r.0) (map told_as reasons) ≡ list_any (λ r. t r.key) reasons
any_told t [] = refl
any_told t (r ∷ reasons) = ap (λ b. t r.key || b) (any_told t reasons)

any_needed : (t : PlainKey → Bool) (clauses : List Keyed) (numbers : List ℕ) (k : ℕ) (c : Keyed) (d : ℕ) → k < length numbers → slice_get clauses (get_or numbers k d - 1) ≡ Some c → t c.0 ≡ true
    → list_any (λ n. t n.0) (needed clauses numbers) ≡ true
any_needed t clauses [] k c d within at h = absurd (omega (arith, within))
any_needed t clauses (n ∷ numbers) zero c d within at h = here (slice_get clauses (n - 1)) at (needed clauses numbers)
  where
    here : (found : Option Keyed) → found ≡ Some c → (rest : List Keyed) → list_any (λ n. t n.0) (cons_option found rest) ≡ true
    here None is rest = absurd (cc is)
    here (Some first) is rest = let same : first ≡ c = cc in or_left (t first.0) (list_any (λ n. t n.0) rest) (ap (λ (x : Keyed). t x.0) same ∙ h)
any_needed t clauses (n ∷ numbers) (suc k) c d within at h = later (slice_get clauses (n - 1)) (needed clauses numbers) (any_needed t clauses numbers k c d (omega (arith, within)) at h)
  where
    later : (found : Option Keyed) (rest : List Keyed) → list_any (λ n. t n.0) rest ≡ true → list_any (λ n. t n.0) (cons_option found rest) ≡ true
    later None rest is = is
    later (Some first) rest is = or_right (t first.0) (list_any (λ n. t n.0) rest) is

-- ---- what a refutation says

abbrev told_of_core : PlainProblem → List ℕ → List Told
told_of_core problem core = map told_as (reasons_of (needed (cnf problem) core))

-- the reasons of these keys
abbrev named_reasons : PlainProblem → List Told → List (PlainInstance × List ℕ)
named_reasons problem told = filter_map (λ t. option_map (λ i. (i, t.1)) (instance_of problem t.0)) told

-- they have the lines of the keys
told_lines : (style : Style) (problem : PlainProblem) (told : List Told) → flat_map (told_line style problem) told ≡ flat_map (reason_line style problem) (named_reasons problem told)
told_lines style problem [] = refl
told_lines style problem ((key, places) ∷ told) = by (instance_of problem key) (named_reasons problem told) (told_lines style problem told)
  where
    by : (found : Option PlainInstance) (rest : List (PlainInstance × List ℕ)) → flat_map (told_line style problem) told ≡ flat_map (reason_line style problem) rest
        → option_map_or (λ i. reason_line style problem (i, places)) found [] ++ flat_map (told_line style problem) told
        ≡ flat_map (reason_line style problem) (cons_option (option_map (λ i. (i, places)) found) rest)
    by None rest same = same
    by (Some i) rest same = ap (λ text. reason_line style problem (i, places) ++ text) same

-- where one of the keys passes a test, and each instance of such a key does what is said, one of the reasons does
of_one_told : (problem : PlainProblem) (P : PlainInstance → Type 0) (test : PlainKey → Bool) → ((key : PlainKey) → test key ≡ true → (i : PlainInstance) × (instance_of problem key ≡ Some i) × P i)
    → (told : List Told) → list_any (λ t. test t.0) told ≡ true → OfOne (λ reason. P reason.0) (named_reasons problem told)
of_one_told problem P test has [] h = absurd (cc h)
of_one_told problem P test has (t ∷ told) h = by (test t.0) refl h (of_one_told problem P test has told)
  where
    skip : (found : Option (PlainInstance × List ℕ)) → OfOne (λ reason. P reason.0) (named_reasons problem told) → OfOne (λ reason. P reason.0) (cons_option found (named_reasons problem told))
    skip None rest = rest
    skip (Some reason) rest = inr rest

    by : (b : Bool) → test t.0 ≡ b → (b || list_any (λ t. test t.0) told) ≡ true → (list_any (λ t. test t.0) told ≡ true → OfOne (λ reason. P reason.0) (named_reasons problem told))
        → OfOne (λ reason. P reason.0) (named_reasons problem (t ∷ told))
    by true here all more = let found = has t.0 here in
        subst (λ o. OfOne (λ reason. P reason.0) (cons_option (option_map (λ (i : PlainInstance). (i, t.1)) o) (named_reasons problem told))) (sym found.1) (inl found.2)
    by false here all more = skip (option_map (λ i. (i, t.1)) (instance_of problem t.0)) (more all)

-- what is listed of a status is listed beside unknown stanzas too
still_listed : (problem : PlainProblem) (is_installed : ℕ → Bool) (unknown : List PlainUnknown) (i : PlainInstance) → Contains (listing (proposed problem is_installed [])) i → Contains (listing (proposed problem is_installed unknown)) i
still_listed problem is_installed unknown i of =
    let own = filter (falls problem is_installed) (problem_instances problem) in
    subst (λ (is : List PlainInstance). Contains is i) (sym (listing_falls problem is_installed unknown))
    (Contains-append_left own (map unknown_instance unknown) i (subst (λ (is : List PlainInstance). Contains is i) (listing_falls problem is_installed [] ∙ append-nil own) of))

violates_one : RefutedIsCore → (problem : PlainProblem) (text core : List ℕ) → checked (length problem.packages) (clauses_of (cnf problem)) text ≡ refuted core
    → (is_installed : ℕ → Bool) (unknown : List PlainUnknown) → OfOne (λ reason. Contains (listing (proposed problem is_installed unknown)) reason.0) (named_reasons problem (told_of_core problem core))
violates_one law problem text core is is_installed unknown =
    let clauses = cnf problem in
    let s = proposed problem is_installed unknown in
    let v = refuted_are_violated problem core (law (length problem.packages) (clauses_of clauses) text core is) is_installed [] in
    let of = listed_is_of_problem problem is_installed v.instance v.violated in
    let test : PlainKey → Bool = λ key. same_key key v.clause.0 in
    let up = core_by_key problem (length problem.packages) clauses text core keys_never_descend refl is in
    let by_needed : list_any (λ n. test n.0) (needed clauses core) ≡ true =
    any_needed test clauses core v.named.0 v.clause v.number v.named.1 (ap (λ n. slice_get clauses (n - 1)) v.named.2 ∙ v.stands) (same_itself v.clause.0) in
    let by_reason : list_any (λ r. test r.key) (reasons_of (needed clauses core)) ≡ true =
    sym (list_any-IsPermutation (λ (r : PlainReason). test r.key) (core_of (needed clauses core)) (reasons_of (needed clauses core)) (each_told_once (needed clauses core) up))
    ∙ any_reason test (grouped (needed clauses core)) ∙ any_grouped test (needed clauses core) ∙ by_needed in
    of_one_told problem (Contains (listing s)) test
    (λ key same. (v.instance, ap (instance_of problem) (same_is key v.clause.0 same ∙ sym v.key) ∙ instance-found problem v.instance of, still_listed problem is_installed unknown v.instance v.violated))
    (told_of_core problem core) (any_told test (reasons_of (needed clauses core)) ∙ by_reason)

-- a report of a problem with `Yes` is what is answered of it, and it has no fault
answered : (P : List ℕ → Type 0) (style : Style) (mode : Mode) (bytes : List ℕ) (answer : PlainProblem → Report)
    → (problem_fault mode bytes ≡ None → (answer (plain_problem (plain_text bytes))).outcome ≡ Yes → P (answer (plain_problem (plain_text bytes))).text)
    → let r = problem_report style mode bytes answer in r.outcome ≡ Yes → P r.text
answered P style mode bytes answer holds = by (problem_fault mode bytes) refl
  where
    by : (fault : Option Fault) → problem_fault mode bytes ≡ fault → let r = faulty_or style of_problem (codes "problem") fault (answer (plain_problem (plain_text bytes))) in r.outcome ≡ Yes → P r.text
    by (Some f) is h = absurd (cc h)
    by None is h = holds is h

-- and so is one of a CNF that isn't too large
written : (P : List ℕ → Type 0) (large : Bool) (r : Report) → (large ≡ false → r.outcome ≡ Yes → P r.text) → let u = unless_too_large large r in u.outcome ≡ Yes → P u.text
written P true r holds h = absurd (cc h)
written P false r holds h = holds refl h

encodes : SolutionSatisfies → (problem : PlainProblem) → Encodes problem (dimacs problem.packages (rules_of problem))
encodes law problem = record { clauses = clauses_of (cnf problem); printed = refl; models = λ is_installed. sym (law problem is_installed []) }

refutes : RefutedIsCore → (style : Style) (problem : PlainProblem) (proof : List ℕ) → let r = checked_report style (rules_of problem) (core_text style problem) proof in r.outcome ≡ Yes → Refutes style problem r.text
refutes law style problem proof = by (checked (length problem.packages) (clauses_of (cnf problem)) proof) refl
  where
    by : (answer : PlainAnswer) → checked (length problem.packages) (clauses_of (cnf problem)) proof ≡ answer
        → let r = proof_report style (length (clauses_of (cnf problem))) (core_text style problem) answer in r.outcome ≡ Yes → Refutes style problem r.text
    by (faulty number kind) is h = absurd (cc h)
    by (refuted core) is h = record {
      reasons = named_reasons problem (told_of_core problem core);
      lines = ap (λ text. text ++ line (codes "no solution exists")) (told_lines style problem (told_of_core problem core));
      violated = violates_one law problem proof core is;
    }

-- the lines of instances are the same whatever the proof
whatever_proof : (explain : Bool) (bytes proof text : List ℕ) (problem : PlainProblem) → Refutes (refutation_style explain bytes proof) problem text → Refutes (refutation_style explain bytes []) problem text
whatever_proof explain bytes proof text problem r = record { reasons = r.reasons; lines = r.lines; violated = r.violated }

-- ---- better solutions

-- a problem without fault has each pair once
pairs_of : (text : PlainText) (mode : Mode) → problem_faults text mode ≡ [] → are_distinct (map package_id (plain_problem text).packages) ≡ true
unfolding plain_problem
pairs_of text mode none = ids_distinct text mode none

distinct_pairs : (mode : Mode) (bytes : List ℕ) → problem_fault mode bytes ≡ None → are_distinct (map package_id (plain_problem (plain_text bytes)).packages) ≡ true
distinct_pairs mode bytes = by (is_utf8 bytes)
  where
    by : (b : Bool) → (if b then least (problem_faults (plain_text bytes) mode) else Some (utf8_fault bytes)) ≡ None → are_distinct (map package_id (plain_problem (plain_text bytes)).packages) ≡ true
    by true none = pairs_of (plain_text bytes) mode (least-none (problem_faults (plain_text bytes) mode) none)
    by false none = absurd (cc none)

-- an answer with `Yes` is of the counts of a solution
of_solution_alone : (P : List ℕ → Type 0) (answer_of : Criteria → Report) (s : Proposal) → (is_solution s ≡ true → (answer_of (criteria s)).outcome ≡ Yes → P (answer_of (criteria s)).text)
    → (fails solves : Bool) → is_solution s ≡ solves → let r = judged_as answer_of (if fails then SaysFail else (if solves then Solution (criteria s) else NoSolution)) in r.outcome ≡ Yes → P r.text
of_solution_alone P answer_of s holds true solves is h = absurd (cc h)
of_solution_alone P answer_of s holds false true is h = holds is h
of_solution_alone P answer_of s holds false false is h = absurd (cc h)

counted : (P : List ℕ → Type 0) (style : Style) (mode : Mode) (answer_of : PlainProblem → Criteria → Report) (solution : List ℕ) (problem : PlainProblem)
    → (let s = proposal_of problem (plain_text solution) in is_solution s ≡ true → (answer_of problem (criteria s)).outcome ≡ Yes → P (answer_of problem (criteria s)).text)
    → let r = better_report style mode answer_of solution problem in r.outcome ≡ Yes → P r.text
counted P style mode answer_of solution problem holds = by (solution_fault mode problem.extra_names solution)
  where
    by : (fault : Option Fault) → let r = faulty_or style of_solution (codes "solution") fault (judged_as (answer_of problem) (judgement problem solution)) in r.outcome ≡ Yes → P r.text
    by (Some f) h = absurd (cc h)
    by None h = let s = proposal_of problem (plain_text solution) in of_solution_alone P (answer_of problem) s holds (is_fail solution) (is_solution s) refl h

module _ (s : Proposal) (distinct : are_distinct (map package_id s.problem.packages) ≡ true) (solution : is_solution s ≡ true) (aims : List Aim) where
  abbrev cnf_of_better : PlainCnf
  cnf_of_better = better_cnf s.problem (criteria s) aims

  encodes_better : BetterSatisfies → let r = cnf_better aims s.problem (criteria s) in r.outcome ≡ Yes → EncodesBetter aims s r.text
  encodes_better law = written (EncodesBetter aims s) (better_encodings.is_too_large s.problem (criteria s) aims) (with_yes (dimacs s.problem.packages cnf_of_better)) (λ small h. record {
    cnf = cnf_of_better;
    solution = solution;
    printed = refl;
    models = λ is_installed unknown better. law s.problem (criteria s) aims distinct small is_installed unknown better.0 better.1;
  })

  is_best : RefutedIsCore → RefutedIsBest → (style : Style) (proof : List ℕ) → let r = refute_better style aims proof s.problem (criteria s) in r.outcome ≡ Yes → IsBest aims s
  is_best is_core law style proof =
      written (λ text. IsBest aims s) (better_encodings.is_too_large s.problem (criteria s) aims) (checked_report style cnf_of_better (λ core. best_text aims (criteria s)) proof)
      (λ small. by small (checked cnf_of_better.variables cnf_of_better.clauses proof) refl)
    where
      by : better_encodings.is_too_large s.problem (criteria s) aims ≡ false → (answer : PlainAnswer) → checked cnf_of_better.variables cnf_of_better.clauses proof ≡ answer
          → let r = proof_report style (length cnf_of_better.clauses) (λ core. best_text aims (criteria s)) answer in r.outcome ≡ Yes → IsBest aims s
      by small (faulty number kind) is h = absurd (cc h)
      by small (refuted core) is h = record {
        solution = solution;
        best = λ is_installed unknown better. law s.problem (criteria s) aims distinct small core (is_core cnf_of_better.variables cnf_of_better.clauses proof core is) is_installed unknown better.0 better.1;
      }

-- ---- a run

module _ (is_core : RefutedIsCore) (satisfies : SolutionSatisfies) (better : BetterSatisfies) (best : RefutedIsBest) where
  report_means : (job : Job) (mode : Mode) (names : Names) (bytes : List ℕ) (others : List (List ℕ)) → let r = report job mode names bytes others in r.outcome ≡ Yes → Means job bytes others r.text
  unfolding report
  report_means (Lint explain) mode names bytes others ends = tt
  report_means (Check after limit explain) mode names bytes others ends = tt
  report_means (Score aims) mode names bytes others ends = tt
  report_means (Rank aims) mode names bytes others ends = tt
  report_means Cnf mode names bytes others ends =
      let problem = plain_problem (plain_text bytes) in
      answered (Encodes problem) plainly mode bytes cnf_answer (λ none. written (Encodes problem) (is_too_large problem) (with_yes (dimacs problem.packages (rules_of problem))) (λ small h. encodes satisfies problem)) ends
  report_means (CnfBetter aims) mode names bytes others ends =
      let problem = plain_problem (plain_text bytes) in
      let solution = input_at others 0 in
      let s = put_forward bytes solution in
      let P = EncodesBetter aims.items s in
      answered P plainly mode bytes (better_report plainly mode (cnf_better aims.items) solution)
      (λ none. counted P plainly mode (cnf_better aims.items) solution problem (λ solves. encodes_better s (distinct_pairs mode bytes none) solves aims.items better)) ends
  report_means (Refute explain) mode names bytes others ends =
      let problem = plain_problem (plain_text bytes) in
      let proof = input_at others 0 in
      let style = refutation_style explain bytes proof in
      let r = checked_report style (rules_of problem) (core_text style problem) proof in
      let P = Refutes (refutation_style explain bytes []) problem in
      answered P style mode bytes (refute_answer style proof)
      (λ none. written P (is_too_large problem) r (λ small h. whatever_proof explain bytes proof r.text problem (refutes is_core style problem proof h))) ends
  report_means (RefuteBetter aims) mode names bytes others ends =
      let problem = plain_problem (plain_text bytes) in
      let solution = input_at others 1 in
      let answer_of = refute_better plainly aims.items (input_at others 0) in
      let s = put_forward bytes solution in
      let P : List ℕ → Type 0 = λ text. IsBest aims.items s in
      answered P plainly mode bytes (better_report plainly mode answer_of solution)
      (λ none. counted P plainly mode answer_of solution problem (λ solves. is_best s (distinct_pairs mode bytes none) solves aims.items is_core best plainly (input_at others 0))) ends

  pub run_means : (job : Job) (mode : Mode) (names : Names) (first : Change SourceState) (others : List (Change SourceState)) (out : Change SinkState) (bytes : List ℕ) (texts : List (List ℕ)) (result : Result Outcome RunError)
      → ReadsAll first bytes → AllZip ReadsAll others texts → Answers out.before out.after (report job mode names bytes texts) result
      → IfOk result (λ outcome. outcome ≡ Yes → HasRead first others (λ bytes texts. (text : List ℕ) × Appends out.before.contents out.after.contents text × Means job bytes texts text))
  run_means job mode names first others out bytes texts (Err e) read reads answers = tt
  run_means job mode names first others out bytes texts (Ok outcome) read reads answers = λ ends. record {
    text = bytes;
    texts = texts;
    first_read = read;
    others_read = reads;
    holds = ((report job mode names bytes texts).text, answers.ok.written, report_means job mode names bytes texts (sym answers.ok.answered ∙ ends));
  }
