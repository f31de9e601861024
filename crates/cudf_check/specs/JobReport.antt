-- The report of a run: a function of the job and the inputs to a text and an outcome. Own.
use Rattle.std.specs.Prelude.{◌≡◌, All, ℕ, false, List, codes, Option, Some, None, option_map, slice_get}
use Rattle.std.specs.Option.{option_map_or}
use Rattle.cudf_text.specs.Joined.{problem_part, solution_part}
use Rattle.cudf_problem.specs.declared.problem.Mode.{Mode}
use Rattle.cudf_job.specs.KeyViews.{key_view}
use Rattle.cudf_job.specs.declared.job.Job.{Job}
use Rattle.cudf_job.specs.declared.job.Job.TheVariants.{Lint, Check, Score, Rank, Cnf, CnfBetter, Refute, RefuteBetter}
use Rattle.cudf_referee.specs.Proposals.{Proposal}
use Rattle.cudf_check.specs.BetterReport.{better_report, cnf_better, refute_better}
use Rattle.cudf_check.specs.JobStyles.{explains, input_at, style_of}
use Rattle.cudf_check.specs.Naming.{Names}
use Rattle.cudf_check.specs.RankReport.{solutions_report}
use Rattle.cudf_check.specs.Report.{alone, faulty, check_text, cnf_answer, problem_fault, problem_report, refute_answer, scored_text, solution_report}
use Rattle.cudf_check.specs.Styles.{of_problem, Style, plainly}
use Rattle.cudf_device.specs.Outcomes.{Report}
use Rattle.cudf_device.specs.declared.outcome.Outcome.TheVariants.{Yes}

-- the second input is the solution; where there is none, the first one is cut
abbrev pub inputs_report : Style → Mode → (Proposal → List ℕ) → List ℕ → Option (List ℕ) → Report
inputs_report style mode found doc None = problem_report style mode (problem_part doc) (λ p. solution_report style mode found p (solution_part doc))
inputs_report style mode found input (Some solution) = problem_report style mode input (λ p. solution_report style mode found p solution)

-- of the first input and the others
abbrev pub styled_report : Style → Job → Mode → List ℕ → List (List ℕ) → Report
styled_report style (Lint explain) mode input others = option_map_or (faulty style of_problem (codes "problem")) (problem_fault mode input) (alone (codes "problem ok") Yes)
styled_report style (Check after limit explain) mode input others = inputs_report style mode (check_text style (option_map key_view after) limit) input (slice_get others 0)
styled_report style (Score aims) mode input others = inputs_report style mode (scored_text (option_map (λ list. list.items) aims)) input (slice_get others 0)
styled_report style (Rank aims) mode input others = problem_report style mode input (λ problem. solutions_report style aims.items mode problem others)
styled_report style Cnf mode input others = problem_report style mode input cnf_answer
styled_report style (CnfBetter aims) mode input others = problem_report style mode input (better_report style mode (cnf_better aims.items) (input_at others 0))
styled_report style (Refute explain) mode input others = problem_report style mode input (refute_answer style (input_at others 0))
styled_report style (RefuteBetter aims) mode input others = problem_report style mode input (better_report style mode (refute_better style aims.items (input_at others 0)) (input_at others 1))

-- in the style for which the job and the names of the inputs ask
unfoldable pub report : Job → Mode → Names → List ℕ → List (List ℕ) → Report
report job mode names input others = styled_report (style_of job names input others) job mode input others

-- a job that asks for no explanation, and whose inputs have no names, is told plainly
abbrev pub IsToldPlainly : Type 0
IsToldPlainly = (job : Job) (mode : Mode) (names : Names) (input : List ℕ) (others : List (List ℕ)) → explains job ≡ false
    → names.first ≡ None → All (λ name. name ≡ None) names.others → report job mode names input others ≡ styled_report plainly job mode input others
