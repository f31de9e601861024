-- What contracts see of what is asked about a solution.
use Rattle.std.specs.Prelude.{ℕ, List, Option, None, Some, option_map}
use Rattle.cudf_problem.specs.Universe.{PlainProblem}
use Rattle.cudf_job.specs.declared.criteria.Aim.{Aim}
use Rattle.cudf_job.specs.declared.criteria.Criteria.{Criteria}
use Rattle.cudf_device.specs.Outcomes.{Report}
use Rattle.cudf_check.specs.BetterReport.{cnf_better, refute_better}
use Rattle.cudf_check.specs.Styles.{plainly}
use Rattle.cudf_check.specs.declared.judging.Question.{Question}

-- the aims, and the proof, if there is one
pub record PlainQuestion : Type 0 where
  pub aims : List Aim
  pub proof : Option (List ℕ)

abbrev pub question_view : Question → PlainQuestion
question_view q = record { aims = q.aims.now; proof = option_map (λ proof. proof.now) q.proof }

-- what is answered of it
abbrev pub asked_of : List Aim → Option (List ℕ) → PlainProblem → Criteria → Report
asked_of aims None problem counts = cnf_better aims problem counts
asked_of aims (Some proof) problem counts = refute_better plainly aims proof problem counts

abbrev pub question_answer : PlainQuestion → PlainProblem → Criteria → Report
question_answer q = asked_of q.aims q.proof
