-- What is answered of solutions that are judged one after another.
use Rattle.std.specs.Prelude.{◌≡◌, ◌==◌, ℕ, Bool, List, [], slice_get, Option, None, Some, option_map}
use Rattle.std.specs.Option.{option_map_or}
use Rattle.cudf_text.specs.declared.fault.Fault.{Fault}
use Rattle.cudf_problem.specs.declared.problem.Mode.{Mode}
use Rattle.cudf_document.specs.declared.fault.ReadError.{ReadError}
use Rattle.cudf_document.specs.declared.fault.ReadError.TheVariants as read_error
use Rattle.cudf_problem.specs.Universe.{PlainProblem}
use Rattle.cudf_check.specs.RankReport.{judgement, entrants, placed_faults}
use Rattle.cudf_check.specs.Report.{faulty, solution_fault}
use Rattle.cudf_check.specs.Styles.{of_entrant, Style}
use Rattle.cudf_device.specs.Outcomes.{Report}
use Rattle.cudf_check.specs.declared.judging.RankingError.{RankingError}
use Rattle.cudf_job.specs.Ranking.{class}
use Rattle.cudf_job.specs.declared.ranking.Judgement.{Judgement}
use Rattle.cudf_job.specs.declared.ranking.Entrant.{Entrant}

-- the solution at a place, judged
abbrev pub entrant_of : PlainProblem → ℕ × List ℕ → Entrant
entrant_of problem (place, bytes) = record { place = place; judgement = judgement problem bytes }

-- the fault of the solution at a place, if it has one, with the place
abbrev pub placed_fault : Mode → PlainProblem → ℕ × List ℕ → Option (ℕ × Fault)
placed_fault mode problem (place, bytes) = option_map (λ f. (place, f)) (solution_fault mode problem.extra_names bytes)

-- what is answered of the first fault of a solution, if there is one, or else the report
abbrev pub first_faulty_or : Style → Option (ℕ × Fault) → Report → Report
first_faulty_or style first report = option_map_or (λ (place, f). faulty style (of_entrant place) (style.faulty_entrant place) f) first report

-- it was judged to be a solution
abbrev pub is_a_solution : Entrant → Bool
is_a_solution e = class e.judgement == 0

-- it was judged to be none
abbrev pub is_no_solution : Entrant → Bool
is_no_solution e = class e.judgement == 1

-- it has no fault, and this is found of it
pub record IsJudged (mode : Mode) (problem : PlainProblem) (bytes : List ℕ) (j : Judgement) : Type 0 where
  pub found : j ≡ judgement problem bytes
  pub sound : solution_fault mode problem.extra_names bytes ≡ None

-- none has a fault, and these are the entrants
pub record AreJudged (mode : Mode) (problem : PlainProblem) (solutions : List (List ℕ)) (ss : List Entrant) : Type 0 where
  pub found : ss ≡ entrants problem solutions
  pub sound : placed_faults mode problem solutions ≡ []

-- the first that has a fault is at this place, or memory was wanting
abbrev pub IsFaultAt : Mode → PlainProblem → List (List ℕ) → ℕ → ReadError → Type 0
IsFaultAt mode problem solutions place (read_error.Fault f) = slice_get (placed_faults mode problem solutions) 0 ≡ Some (place, f)
IsFaultAt mode problem solutions place (read_error.Memory e) = Unit {0}

abbrev pub IsUnranked : Mode → PlainProblem → List (List ℕ) → RankingError → Type 0
IsUnranked mode problem solutions unranked = IsFaultAt mode problem solutions unranked.place unranked.error
