-- How far a report was written, and what was answered.
use Rattle.std.specs.Prelude.{◌≡◌, ◌<◌, ◌↔◌, ℕ, List, Option, Result, IfOk, IfErr, IsErrOf}
use Rattle.std.specs.Io.KnownBytes.{Keeps, Appends}
use Rattle.cudf_device.specs.Device.{SinkState}
use Rattle.cudf_device.specs.Writers.{AppendsPrefix, StopsWriting}
use Rattle.cudf_device.specs.Outcomes.{Report}
use Rattle.cudf_device.specs.declared.outcome.Outcome.{Outcome}
use Rattle.cudf_device.specs.declared.outcome.RunError.{RunError}
use Rattle.cudf_device.specs.declared.outcome.RunError.TheVariants.{Read, TooLong, Write, Memory}

-- the report was written whole, and its outcome answered
pub record IsReported (old new : Option (List ℕ)) (report : Report) (outcome : Outcome) : Type 0 where
  pub written : Appends old new report.text
  pub answered : outcome ≡ report.outcome

-- what an error leaves of a text in the known bytes: a prefix of it after `Write`, and else nothing
abbrev pub Leaves : Option (List ℕ) → Option (List ℕ) → List ℕ → RunError → Type 0
Leaves old new text Read = Keeps old new
Leaves old new text TooLong = Keeps old new
Leaves old new text Write = AppendsPrefix old new text
Leaves old new text Memory = Keeps old new

-- the only errors once the inputs are read
abbrev pub IsMemoryOrWrite : RunError → Type 0
IsMemoryOrWrite Read = ⊥
IsMemoryOrWrite TooLong = ⊥
IsMemoryOrWrite Write = Unit {0}
IsMemoryOrWrite Memory = Unit {0}

-- the report was written and its outcome answered, or memory ran out before its first byte, or a write failed
pub record Answers (old new : SinkState) (report : Report) (result : Result Outcome RunError) : Type 0 where
  pub ok : IfOk result (IsReported old.contents new.contents report)
  pub leaves : IfErr result (Leaves old.contents new.contents report.text)
  pub failed : IsErrOf result Write ↔ (old.failures < new.failures)
  pub calm : IfOk result (λ outcome. old.failures ≡ new.failures)
  pub stops : StopsWriting (record { before = old; after = new })
  pub only : IfErr result IsMemoryOrWrite
