-- Whether a solution is the best one: a CNF that each better solution satisfies, or a check of a proof that there is none. Own.
use Rattle.std.specs.Prelude.{ℕ, false, List, ◌++◌, codes}
use Rattle.std.specs.List.{flat_map}
use Rattle.std.specs.Option.{option_map_or}
use Rattle.cudf_problem.specs.Universe.{PlainProblem}
use Rattle.cudf_problem.specs.declared.problem.Mode.{Mode}
use Rattle.cudf_job.specs.declared.criteria.Aim.{Aim}
use Rattle.cudf_job.specs.declared.criteria.Criteria.{Criteria}
use Rattle.cudf_job.specs.declared.ranking.Judgement.{Judgement}
use Rattle.cudf_job.specs.declared.ranking.Judgement.TheVariants.{Solution, NoSolution, SaysFail}
use Rattle.cudf_better.specs.Encodings.{better_cnf, is_too_large}
use Rattle.cudf_check.specs.RankReport.{judgement}
use Rattle.cudf_check.specs.Report.{aim_line, alone, checked_report, dimacs, faulty, line, solution_fault, unless_too_large, verdict, with_yes}
use Rattle.cudf_check.specs.Styles.{of_solution, Style}
use Rattle.cudf_device.specs.Outcomes.{Report}
use Rattle.cudf_device.specs.declared.outcome.Outcome.TheVariants.{Fail}

-- what is answered of a solution with some counts, or that it is none, or that it says FAIL
abbrev pub judged_as : (Criteria → Report) → Judgement → Report
judged_as answer_of (Solution counts) = answer_of counts
judged_as answer_of NoSolution = verdict false
judged_as answer_of SaysFail = alone (codes "solution FAIL") Fail

-- of a problem that has no fault and a solution: the solution's fault, or else what is answered of it
abbrev pub better_report : Style → Mode → (PlainProblem → Criteria → Report) → List ℕ → PlainProblem → Report
better_report style mode answer_of solution problem =
    option_map_or (faulty style of_solution (codes "solution")) (solution_fault mode problem.extra_names solution)
    (judged_as (answer_of problem) (judgement problem solution))

-- the clauses of a problem, and that a status compares better than some counts: they are printed
abbrev pub cnf_better : List Aim → PlainProblem → Criteria → Report
cnf_better aims problem counts = unless_too_large (is_too_large problem counts aims) (with_yes (dimacs problem.packages (better_cnf problem counts aims)))

-- a line for each aim, and that no solution compares better
abbrev pub best_text : List Aim → Criteria → List ℕ
best_text aims counts = flat_map (aim_line counts) aims ++ line (codes "no better solution exists")

-- or a proof is checked that they can't be satisfied
abbrev pub refute_better : Style → List Aim → List ℕ → PlainProblem → Criteria → Report
refute_better style aims proof problem counts =
    unless_too_large (is_too_large problem counts aims) (checked_report style (better_cnf problem counts aims) (λ core. best_text aims counts) proof)
