-- What became of a writer: how much of a text it took.
use Rattle.std.specs.Prelude.{◌≡◌, ℕ, List, ◌++◌, Option}
use Rattle.std.specs.Io.KnownBytes.{Appends}
use Rattle.cudf_device.specs.Device.{SinkState, failed_writes}
use Rattle.cudf_device.specs.Readers.{Change, IsLast}

-- the known bytes grew by a prefix of the text, which may be none or all of it
pub record AppendsPrefix (old new : Option (List ℕ)) (text : List ℕ) : Type 0 where
  pub taken : List ℕ
  pub left : List ℕ
  pub whole : taken ++ left ≡ text
  pub appended : Appends old new taken

-- no write came after one that failed
abbrev pub StopsWriting : Change SinkState → Type 0
StopsWriting out = IsLast failed_writes out.before.failures out.after.failures out.after.last
