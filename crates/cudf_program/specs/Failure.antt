-- The exit statuses where the program wrote no whole report.
use Rattle.std.specs.Prelude.{◌≡◌, ◌≢◌, ◌<◌, ◌⊎◌, ℕ, List, [], string_bytes, Result, Ok, Err}
use Rattle.std.specs.Io.KnownBytes.{Appends}
use Rattle.std.specs.declared.io.Error.{Error}
use Rattle.std.specs.declared.io.ErrorKind.{ErrorKind}
use Rattle.std.specs.declared.io.ErrorKind.TheVariants.{OutOfMemory}
use Rattle.cudf_device.specs.Device.{SinkState}
use Rattle.cudf_device.specs.Writers.{AppendsPrefix}
use Rattle.cudf_device.specs.Outcomes.{error_status, outcome_status}
use Rattle.cudf_device.specs.declared.outcome.Outcome.{Outcome}
use Rattle.cudf_device.specs.declared.outcome.RunError.{RunError}
use Rattle.cudf_command_line.specs.Usage.{usage_status}
use Rattle.cudf_command_line.specs.declared.command.FileName.{FileName}
use Rattle.cudf_program.specs.declared.failure.Failure.{Failure}
use Rattle.cudf_program.specs.declared.failure.Failure.TheVariants.{Words, Usage, Open, Memory}
use Rattle.cudf_command_line.specs.declared.usage.UsageError.TheVariants as usage

-- words that can't be had are a usage fault, and a file that can't be opened is one of files
abbrev pub failure_status : Failure → ℕ
failure_status (Words error) = 4
failure_status (Usage usage) = usage_status usage
failure_status (Open name error) = 5
failure_status Memory = 6

-- why the words can't be had: out of memory is reported as such
abbrev pub words_failure : ErrorKind → Error → Failure
words_failure OutOfMemory error = Usage usage.Memory
words_failure _ error = Words error

-- why the file can't be opened: out of memory is reported as such, and anything else names the file
abbrev pub open_failure : ErrorKind → FileName → Error → Failure
open_failure OutOfMemory name error = Memory
open_failure _ name error = Open name error

-- the status of a failure: 5 for help or the version where a write of it failed
pub record IsStatusOf (failure : Failure) (before after : SinkState) (status : ℕ) : Type 0 where
  pub told : failure_status failure ≡ 0 → (status ≡ 0) ⊎ ((status ≡ 5) × (before.failures < after.failures))
  pub failed : failure_status failure ≢ 0 → status ≡ failure_status failure

-- what a failure has to print: help or the version, and nothing of any other
abbrev pub failure_text : Failure → List ℕ
failure_text (Usage (usage.Told text)) = string_bytes text
failure_text failure = []

-- a prefix of that was printed, and with status 0 the whole
pub record Prints (failure : Failure) (before after : SinkState) (status : ℕ) : Type 0 where
  pub prefix : AppendsPrefix before.contents after.contents (failure_text failure)
  pub whole : status ≡ 0 → Appends before.contents after.contents (failure_text failure)

-- the status of a run's answer
abbrev pub answer_status : Result Outcome RunError → ℕ
answer_status (Ok outcome) = outcome_status outcome
answer_status (Err error) = error_status error
