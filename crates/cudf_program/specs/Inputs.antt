-- The inputs that the words name, and what is known of their bytes.
use Rattle.std.specs.Prelude.{◌≡◌, ◌⊎◌, ℕ, Bool, List, [], ◌∷◌, false, Option, Some, None, IsTrue, is_some, Result, Ok, Err, if◌then◌else◌}
use Rattle.std.specs.Io.KnownBytes.{Keeps}
use Rattle.std.specs.IoError.{error_kind}
use Rattle.std.specs.declared.io.Error.{Error}
use Rattle.cudf_device.specs.Promises.DeviceInside.{device_inner}
use Rattle.cudf_device.specs.Promises.NamedInside.{named_source}
use Rattle.cudf_device.specs.declared.device.Device.{Device}
use Rattle.cudf_device.specs.declared.device.Named.{Named}
use Rattle.cudf_command_line.specs.Command.{file_label, takes_standard, takes_standard_twice}
use Rattle.cudf_command_line.specs.declared.command.FileName.{FileName}
use Rattle.cudf_command_line.specs.declared.command.FileName.TheVariants.{Path, Standard}
use Rattle.cudf_command_line.specs.declared.command.Order.{Order}
use Rattle.cudf_program.specs.Failure.{open_failure}
use Rattle.cudf_program.specs.declared.failure.Failure.{Failure}
use Rattle.cudf_program.specs.declared.failure.Failure.TheVariants.{Memory}
use Rattle.cudf_program.specs.declared.system.Input.{Input}
use Rattle.cudf_program.specs.declared.system.Stream.{Stream}
use Rattle.cudf_program.specs.declared.system.Stream.TheVariants as origin

-- ---- bytes

-- the bytes that will still come from there, where it tells them: a file by `file`, and standard input by `standard`
abbrev pub origin_left : {F S : Type 0} → (F → Option (List ℕ)) → (S → Option (List ℕ)) → Stream F S → Option (List ℕ)
origin_left file standard (origin.File opened) = file opened
origin_left file standard (origin.Standard given) = standard given

-- the bytes that an input will still give, where it tells them
abbrev pub bytes_left : {F S : Type 0} → (F → Option (List ℕ)) → (S → Option (List ℕ)) → Input F S → Option (List ℕ)
bytes_left file standard input = origin_left file standard input.origin

-- a reader of an input, which may have a name
abbrev pub ReaderOf : Type 0 → Type 0 → Type 0
ReaderOf F S = Named (Device (Input F S))

-- the bytes that the input of a reader will still give, where it tells them
abbrev pub left_of : {F S : Type 0} → (F → Option (List ℕ)) → (S → Option (List ℕ)) → ReaderOf F S → Option (List ℕ)
left_of file standard reader = bytes_left file standard (device_inner (named_source reader))

-- ---- files by name

-- what may be answered where the file at a path is opened: what is known of the bytes that it holds, or an error
abbrev pub Opens : Type 1
Opens = List ℕ → Result (Option (List ℕ)) Error → Type 0

-- this is known of the bytes of a file: of one at a path what was answered where it was opened; of `-` what standard
-- input holds, where that is given
abbrev pub IsHeldBy : Opens → Option (Option (List ℕ)) → FileName → Option (List ℕ) → Type 0
IsHeldBy opens standard (Path path) known = opens path.now (Ok known)
IsHeldBy opens None Standard known = ⊥
IsHeldBy opens (Some standard) Standard known = Keeps standard known

-- the same of the input of a reader
abbrev pub IsOpenedAs : {F S : Type 0} → Opens → Option (Option (List ℕ)) → (ReaderOf F S → Option (List ℕ)) → FileName → ReaderOf F S → Type 0
IsOpenedAs opens standard left name reader = IsHeldBy opens standard name (left reader)

-- how lines of the report name the file, where they name files
abbrev pub label : Bool → FileName → Option (List ℕ)
label names_files name = if names_files then Some (file_label name) else None

-- ---- files that can't be opened

-- the error was answered where the file was opened; standard input isn't opened
abbrev pub IsRefusedBy : Opens → FileName → Error → Type 0
IsRefusedBy opens (Path path) error = opens path.now (Err error)
IsRefusedBy opens Standard error = ⊥

-- the file of this name can't be opened
abbrev pub IsUnopened : Opens → FileName → Failure → Type 0
IsUnopened opens name failure = (error : Error) × IsRefusedBy opens name error × (failure ≡ open_failure (error_kind error) name error)

-- the file of this name can be opened
abbrev pub IsOpenable : Opens → FileName → Type 0
IsOpenable opens (Path path) = (known : Option (List ℕ)) × opens path.now (Ok known)
IsOpenable opens Standard = Unit {0}

-- the first of these files that can't be opened
abbrev pub IsFirstUnopened : Opens → List FileName → Failure → Type 0
IsFirstUnopened opens [] failure = ⊥
IsFirstUnopened opens (name ∷ names) failure = IsUnopened opens name failure ⊎ (IsOpenable opens name × IsFirstUnopened opens names failure)

-- standard input can't be read
abbrev pub IsClosed : Failure → Type 0
IsClosed failure = (error : Error) × (failure ≡ open_failure (error_kind error) Standard error)

-- why an order's files aren't open: standard input is one of them, and can't be read; or one can't be opened, of which
-- the first is reported; or memory ran out
abbrev pub IsOfFiles : Opens → Order → Failure → Type 0
IsOfFiles opens order failure =
    (IsTrue (takes_standard order) × IsClosed failure) ⊎ (IsFirstUnopened opens (order.problem ∷ order.others.items) failure ⊎ (failure ≡ Memory))

-- ---- standard input

-- it is there, if the name is its
abbrev pub IsThere : {S : Type 0} → FileName → Option S → Type 0
IsThere (Path path) standard = Unit {0}
IsThere Standard None = ⊥
IsThere Standard (Some given) = Unit {0}

-- what is left of it after a file of this name: the one that is named `-` takes it
abbrev pub left_behind : {S : Type 0} → FileName → Option S → Option S
left_behind (Path path) standard = standard
left_behind Standard standard = None

-- it is given where one of the order's files is named `-`, and no other is
pub record IsGivenFor {S : Type 0} (order : Order) (standard : Option S) : Type 0 where
  pub given : is_some standard ≡ takes_standard order
  pub once : takes_standard_twice order ≡ false

-- known bytes stay as they were, where it is given
abbrev pub KeepsGiven : Option (Option (List ℕ)) → Option (Option (List ℕ)) → Type 0
KeepsGiven None None = Unit {0}
KeepsGiven None (Some new) = ⊥
KeepsGiven (Some old) None = ⊥
KeepsGiven (Some old) (Some new) = Keeps old new
