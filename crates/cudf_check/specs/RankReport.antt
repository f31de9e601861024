-- The ranking of solutions: a function of the aims, the problem and its solutions to a text and an outcome. Own.
use Rattle.std.specs.Prelude.{ℕ, ◌==◌, List, ◌++◌, map, slice_get, codes, decimal, option_map, IsTrue, if◌then◌else◌}
use Rattle.std.specs.List.{flat_map, filter_map, list_any, enumerate_from}
use Rattle.std.specs.Option.{option_map_or}
use Rattle.cudf_problem.specs.declared.problem.Mode.{Mode}
use Rattle.cudf_text.specs.declared.fault.Fault.{Fault}
use Rattle.cudf_text.specs.Joined.{is_fail}
use Rattle.cudf_text.specs.Stanzas.{plain_text}
use Rattle.cudf_problem.specs.Universe.{PlainProblem}
use Rattle.cudf_job.specs.Aims.{aim_text, count_row}
use Rattle.cudf_referee.specs.Criteria.{criteria}
use Rattle.cudf_referee.specs.Proposals.{Proposal}
use Rattle.cudf_referee.specs.Solutions.{is_solution}
use Rattle.cudf_job.specs.declared.criteria.Aim.{Aim}
use Rattle.cudf_job.specs.declared.criteria.Criteria.{Criteria}
use Rattle.cudf_job.specs.Ranking.{class, have_own_places, ranking}
use Rattle.cudf_check.specs.Styles.{of_entrant, Style}
use Rattle.cudf_check.specs.Report.{line, faulty, solution_fault, proposal_of}
use Rattle.cudf_device.specs.Outcomes.{Report}
use Rattle.cudf_device.specs.declared.outcome.Outcome.{Outcome}
use Rattle.cudf_device.specs.declared.outcome.Outcome.TheVariants.{Yes, No, Fail}
use Rattle.cudf_job.specs.declared.ranking.Judgement.{Judgement}
use Rattle.cudf_job.specs.declared.ranking.Judgement.TheVariants.{Solution, NoSolution, SaysFail}
use Rattle.cudf_job.specs.declared.ranking.Entrant.{Entrant}

-- ---- one solution

-- what is put forward is a solution, with these counts, or it is none
abbrev pub judgement_of : Proposal → Judgement
judgement_of s = if is_solution s then Solution (criteria s) else NoSolution

-- it says FAIL, or else what it puts forward for the problem is judged
abbrev pub judgement : PlainProblem → List ℕ → Judgement
judgement problem bytes = if is_fail bytes then SaysFail else judgement_of (proposal_of problem (plain_text bytes))

-- ---- the solutions, by their places from 1

-- the faulty solutions in order: the place of each, with its first fault
abbrev pub placed_faults : Mode → PlainProblem → List (List ℕ) → List (ℕ × Fault)
placed_faults mode problem solutions =
    filter_map (λ (place, bytes). option_map (λ f. (place, f)) (solution_fault mode problem.extra_names bytes)) (enumerate_from 1 solutions)

-- the solutions in order, each judged
abbrev pub entrants : PlainProblem → List (List ℕ) → List Entrant
entrants problem solutions = map (λ (place, bytes). record { place = place; judgement = judgement problem bytes }) (enumerate_from 1 solutions)

-- ---- lines

-- ` -changed 2`
abbrev pub aim_count : Criteria → Aim → List ℕ
aim_count c aim = codes " " ++ aim_text aim ++ codes " " ++ decimal ((count_row aim.count).1 c)

-- `yes -changed 1 -touched 1`, `no` or `FAIL`
abbrev pub judgement_text : List Aim → Judgement → List ℕ
judgement_text aims (Solution c) = codes "yes" ++ flat_map (aim_count c) aims
judgement_text aims NoSolution = codes "no"
judgement_text aims SaysFail = codes "FAIL"

-- `2 solution 5 yes -changed 1 -touched 1`, of an entrant with its rank
abbrev pub rank_line : Style → List Aim → ℕ × Entrant → List ℕ
rank_line style aims (rank, entrant) =
    line (decimal rank ++ codes " solution " ++ style.entrant entrant.place ++ codes " " ++ judgement_text aims entrant.judgement)

-- ---- the report

-- `Yes` where one was judged to be a solution, or else `No` where one was judged to be none, or else `Fail`
abbrev pub best_outcome : List Entrant → Outcome
best_outcome es = if list_any (λ e. class e.judgement == 0) es then Yes else (if list_any (λ e. class e.judgement == 1) es then No else Fail)

-- a line for each of the entrants, the best first, with its rank from 1
abbrev pub ranked_report : Style → List Aim → List Entrant → Report
ranked_report style aims es = record { text = flat_map (rank_line style aims) (enumerate_from 1 (ranking aims es)); outcome = best_outcome es }

-- solutions of a problem that has no fault: `solution 2 line 1: E12 no version` of the first faulty one, or else the ranking
abbrev pub solutions_report : Style → List Aim → Mode → PlainProblem → List (List ℕ) → Report
solutions_report style aims mode problem solutions =
    option_map_or (λ (place, f). faulty style (of_entrant place) (style.faulty_entrant place) f) (slice_get (placed_faults mode problem solutions) 0)
    (ranked_report style aims (entrants problem solutions))

-- ---- what makes the laws over rankings hold of it

-- among the solutions of a problem no place occurs twice
abbrev pub EntrantsHaveOwnPlaces : Type 0
EntrantsHaveOwnPlaces = (problem : PlainProblem) (solutions : List (List ℕ)) → IsTrue (have_own_places (entrants problem solutions))
