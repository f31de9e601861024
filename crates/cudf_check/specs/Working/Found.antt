-- What is before the verdict, and the report of a problem and its solution.
use Rattle.std.specs.Prelude.{ℕ, List, [], option_map}
use Rattle.cudf_job.specs.KeyViews.{key_view}
use Rattle.cudf_referee.specs.Proposals.{Proposal}
use Rattle.cudf_check.specs.Report.{check_text, problem_report, scored_text, solution_report}
use Rattle.cudf_check.specs.Styles.{Style}
use Rattle.cudf_device.specs.Outcomes.{Report}
use Rattle.cudf_problem.specs.declared.problem.Mode.{Mode}
use Rattle.cudf_job.specs.declared.job.Job.{Job}
use Rattle.cudf_job.specs.declared.job.Job.TheVariants.{Check, Score}

-- what is found for the job: nothing where none is judged
abbrev pub found_text : Job → Style → Proposal → List ℕ
found_text (Check after limit explain) style s = check_text style (option_map key_view after) limit s
found_text (Score aims) style s = scored_text (option_map (λ list. list.items) aims) s
found_text _ style s = []

-- a problem and a solution
abbrev pub pair_report : Style → Mode → (Proposal → List ℕ) → List ℕ → List ℕ → Report
pair_report style mode found problem solution = problem_report style mode problem (λ p. solution_report style mode found p solution)
