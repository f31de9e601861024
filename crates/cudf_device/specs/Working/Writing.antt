-- What is written of a text.
use Rattle.std.specs.Prelude.{◌≡◌, ◌<◌, ◌↔◌, ℕ, List, Result, OnOk, IsErrOf, IsOkUnless}
use Rattle.std.specs.Io.KnownBytes.{Appends}
use Rattle.cudf_device.specs.Device.{SinkState}
use Rattle.cudf_device.specs.Writers.{AppendsPrefix, StopsWriting}
use Rattle.cudf_device.specs.declared.outcome.RunError.{RunError}
use Rattle.cudf_device.specs.declared.outcome.RunError.TheVariants.{Write}

-- a text was written, or before a failed write a prefix of it
pub record Writes {T : Type 0} (old new : SinkState) (result : Result T RunError) (text : List ℕ) : Type 0 where
  pub ok : OnOk result (Appends old.contents new.contents text)
  pub prefix : AppendsPrefix old.contents new.contents text
  pub failed : IsErrOf result Write ↔ (old.failures < new.failures)
  pub calm : OnOk result (old.failures ≡ new.failures)
  pub stops : StopsWriting (record { before = old; after = new })
  pub only : IsOkUnless result Write
