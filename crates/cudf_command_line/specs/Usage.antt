-- The exit statuses of words that start no run.
use Rattle.std.specs.Prelude.{ℕ}
use Rattle.clap.specs.declared.error.kind.ErrorKind.{ErrorKind}
use Rattle.clap.specs.declared.error.kind.ErrorKind.TheVariants.{DisplayHelp, DisplayVersion, OutOfMemory}
use Rattle.cudf_command_line.specs.Command.{refusal_status}
use Rattle.cudf_command_line.specs.declared.usage.UsageError.{UsageError}
use Rattle.cudf_command_line.specs.declared.usage.UsageError.TheVariants.{Told, Mistake, Refused, Memory}

-- help and the version are answers, a mistake is a usage fault, and a refusal has its own status
abbrev pub usage_status : UsageError → ℕ
usage_status (Told text) = 0
usage_status (Mistake topic text) = 4
usage_status (Refused topic refusal) = refusal_status refusal
usage_status Memory = 6

-- the status of words that can't be parsed, by the kind of error
abbrev pub kind_status : ErrorKind → ℕ
kind_status DisplayHelp = 0
kind_status DisplayVersion = 0
kind_status OutOfMemory = 6
kind_status _ = 4
