-- What a run answers: its report, and its exit status.
use Rattle.std.specs.Prelude.{ℕ, List}
use Rattle.cudf_device.specs.declared.outcome.Outcome.{Outcome}
use Rattle.cudf_device.specs.declared.outcome.Outcome.TheVariants.{Yes, No, Faulty, Fail, TooLarge}
use Rattle.cudf_device.specs.declared.outcome.RunError.{RunError}
use Rattle.cudf_device.specs.declared.outcome.RunError.TheVariants.{Memory}

-- what is written, and how it ends
pub record Report : Type 0 where
  pub text : List ℕ
  pub outcome : Outcome

-- a report's status
abbrev pub outcome_status : Outcome → ℕ
outcome_status Yes = 0
outcome_status No = 1
outcome_status Faulty = 2
outcome_status Fail = 3
outcome_status TooLarge = 5

-- the status where there is no whole report
abbrev pub error_status : RunError → ℕ
error_status Memory = 6
error_status _ = 5
