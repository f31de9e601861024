-- A run: what it does to its readers and its writer, and what it answers.
use Rattle.std.specs.Prelude.{◌≡◌, ◌≢◌, ◌<◌, ◌⊎◌, ◌↔◌, ℕ, List, Result, IfOk, IfErr, IsErrOf}
use Rattle.std.specs.List.{AllZip}
use Rattle.std.specs.Io.KnownBytes.{Appends, Keeps}
use Rattle.cudf_device.specs.Device.{SourceState, SinkState}
use Rattle.cudf_device.specs.Readers.{Change, ReadsAll, IsUnfinished, IsTooLong, OfOne}
use Rattle.cudf_device.specs.Writers.{AppendsPrefix}
use Rattle.cudf_device.specs.Outcomes.{Report}
use Rattle.cudf_device.specs.declared.outcome.Outcome.{Outcome}
use Rattle.cudf_device.specs.declared.outcome.RunError.{RunError}
use Rattle.cudf_device.specs.declared.outcome.RunError.TheVariants.{Read, TooLong, Write}

-- the first input and the others were read whole, and this holds of their texts
pub record HasRead (first : Change SourceState) (others : List (Change SourceState)) (P : List ℕ → List (List ℕ) → Type 0) : Type 0 where
  pub text : List ℕ
  pub texts : List (List ℕ)
  pub first_read : ReadsAll first text
  pub others_read : AllZip ReadsAll others texts
  pub holds : P text texts

-- a run on a first input and others, with the report that their texts have, and a writer
pub record Runs (report : List ℕ → List (List ℕ) → Report) (first : Change SourceState) (others : List (Change SourceState)) (old new : SinkState) (result : Result Outcome RunError) : Type 0 where
  -- an outcome: the whole report was written, and the outcome is the report's
  pub done : IfOk result (λ o. HasRead first others (λ t ts. let r = report t ts in Appends old.contents new.contents r.text × (o ≡ r.outcome)))
  -- `Write`: a prefix of the report was written
  pub cut_short : IsErrOf result Write → HasRead first others (λ t ts. AppendsPrefix old.contents new.contents (report t ts).text)
  -- any other error: nothing was written
  pub untouched : IfErr result (λ e. e ≢ Write → Keeps old.contents new.contents)
  -- `Read` exactly where a read failed or a reader didn't end within its turns
  pub read : IsErrOf result Read ↔ (IsUnfinished first ⊎ OfOne IsUnfinished others)
  -- `TooLong` exactly where a reader gave too many bytes
  pub too_long : IsErrOf result TooLong ↔ (IsTooLong first ⊎ OfOne IsTooLong others)
  -- `Write` exactly where a write failed
  pub write : IsErrOf result Write ↔ (old.failures < new.failures)
