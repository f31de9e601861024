-- What a device is made of, and what it tells of the reader or writer under it.
use Rattle.std.specs.Prelude.{◌≡◌, ℕ, List, Option, None, Result, Ok, Err}
use Rattle.std.specs.declared.io.Error.{Error}
use Rattle.std.specs.declared.io.ErrorKind.{ErrorKind}
use Rattle.std.specs.declared.io.ErrorKind.TheVariants as error_kinds
use Rattle.std.specs.IoError.{error_kind}
use Rattle.cudf_device.specs.Device.{SourceState, SinkState}
use Rattle.cudf_device.specs.declared.device.Device.{Device}
use Rattle.cudf_device.specs.declared.device.Trouble.{Trouble}
use Rattle.cudf_device.specs.declared.device.Trouble.TheVariants.{Interrupted, Failed}

-- the reader or writer under a device
abbrev pub device_inner : {T : Type 0} → Device T → T
device_inner d = d.inner

-- it has had no call
pub record IsUnused {T : Type 0} (d : Device T) : Type 0 where
  pub calls : d.calls ≡ 0
  pub failures : d.failures ≡ 0
  pub ends : d.ends ≡ 0
  pub given : d.given ≡ 0
  pub last : d.last ≡ None

-- what contracts see of a device over a reader that will still give these bytes; it has no name
abbrev pub source_state : {T : Type 0} → (T → Option (List ℕ)) → Device T → SourceState
source_state remaining d = record {
  name = None;
  remaining = remaining d.inner;
  calls = d.calls;
  failures = d.failures;
  ends = d.ends;
  given = d.given;
  last = d.last;
}

-- what contracts see of a device over a writer that has taken these bytes
abbrev pub sink_state : {T : Type 0} → (T → Option (List ℕ)) → Device T → SinkState
sink_state contents d = record { contents = contents d.inner; failures = d.failures; last = d.last }

-- an error of a std reader or writer, by its kind
abbrev pub trouble_of : ErrorKind → Trouble
trouble_of error_kinds.Interrupted = Interrupted
trouble_of kind = Failed

-- what a std reader or writer answered, as a source or sink answers it
abbrev pub device_answer : Result ℕ Error → Result ℕ Trouble
device_answer (Ok n) = Ok n
device_answer (Err error) = Err (trouble_of (error_kind error))

-- a call of the reader gave an answer, and it is reported as a source answers it
abbrev pub IsTold : {T : Type 0} → (T → Result ℕ Error → List ℕ → T → Type 0) → T → Result ℕ Trouble → List ℕ → T → Type 0
IsTold gives before told bytes after = (answer : Result ℕ Error) × gives before answer bytes after × (told ≡ device_answer answer)

-- a call of the writer was given all of the bytes, and its answer is reported as a sink answers it
abbrev pub IsHandedDown : {T : Type 0} → (T → List ℕ → Result ℕ Error → T → Type 0) → T → List ℕ → Result ℕ Trouble → T → Type 0
IsHandedDown takes before bytes told after = (answer : Result ℕ Error) × takes before bytes answer after × (told ≡ device_answer answer)
