-- What became of readers: of one, and of several that are read in turn.
use Rattle.std.specs.Prelude.{◌≡◌, ◌+◌, ◌<◌, ◌≤◌, ◌⊎◌, ℕ, List, [], ◌∷◌, length, map, Option, Result}
use Rattle.std.specs.Option.{option_map_or}
use Rattle.std.specs.Io.KnownBytes.{Consumes, IsAtEnd}
use Rattle.cudf_device.specs.Device.{SourceState, failed_reads, ended_reads, bytes_given}
use Rattle.cudf_device.specs.declared.device.Trouble.{Trouble}

-- ---- before and after

pub record Change (A : Type 0) : Type 0 where
  pub before : A
  pub after : A

-- what became of the state of a device
abbrev pub change : {D A : Type 0} → (D → A) → D → D → Change A
change state old new = record { before = state old; after = state new }

-- what became of the states of devices in a row
abbrev pub changes : {D A : Type 0} → (D → A) → List D → List D → List (Change A)
changes state (old ∷ olds) (new ∷ news) = change state old new ∷ changes state olds news
changes state olds news = []

-- ---- how much a run reads of one input

-- the most bytes that an input may have: 256 MiB
abbrev pub most_bytes : ℕ
most_bytes = 268435456

-- the most calls of `read` that an input may take
abbrev pub most_turns : ℕ
most_turns = 536870912

-- ---- one reader

-- these bytes are all that the reader had, and it gave them all
pub record ReadsAll (reader : Change SourceState) (bytes : List ℕ) : Type 0 where
  pub consumed : Consumes reader.before.remaining reader.after.remaining bytes
  pub at_end : IsAtEnd reader.after.remaining
  pub ended : reader.after.ends ≡ reader.before.ends + 1
  pub counted : reader.after.given ≡ reader.before.given + length bytes

-- a read failed, or the reader had as many calls as an input may take, and none of them ended it or made it too long
abbrev pub IsUnfinished : Change SourceState → Type 0
IsUnfinished reader = (reader.before.failures < reader.after.failures)
    ⊎ ((reader.after.calls ≡ reader.before.calls + most_turns)
    × (reader.after.ends ≡ reader.before.ends)
    × (reader.after.given ≤ reader.before.given + most_bytes))

-- the reader gave too many bytes
abbrev pub IsTooLong : Change SourceState → Type 0
IsTooLong reader = reader.before.given + most_bytes < reader.after.given

-- of the calls that count there was at most one, and no call came after it
pub record IsLast (count : Result ℕ Trouble → ℕ) (before after : ℕ) (last : Option (Result ℕ Trouble)) : Type 0 where
  pub once : after ≤ before + 1
  pub at_last : before < after → option_map_or count last 0 ≡ 1

-- the reader wasn't called again once that could tell nothing more
pub record StopsInTime (reader : Change SourceState) : Type 0 where
  -- no more calls than an input may take
  pub turns : reader.after.calls ≤ reader.before.calls + most_turns
  -- none after one that failed
  pub failed : IsLast failed_reads reader.before.failures reader.after.failures reader.after.last
  -- none after one that reached the end
  pub ended : IsLast ended_reads reader.before.ends reader.after.ends reader.after.last
  -- none after it gave too many bytes: without those of the last call they weren't too many
  pub given : IsTooLong reader → reader.after.given ≤ reader.before.given + most_bytes + option_map_or bytes_given reader.after.last 0

-- the reader wasn't read whole: it failed, gave too much, or hasn't reached its end, as where memory ran out
abbrev pub IsStopped : Change SourceState → Type 0
IsStopped reader = IsUnfinished reader ⊎ (IsTooLong reader ⊎ (reader.after.ends ≡ reader.before.ends))

-- ---- readers in a row

-- this holds of one of them
abbrev pub OfOne : {A : Type 0} → (A → Type 0) → List A → Type 0
OfOne P [] = ⊥
OfOne P (x ∷ xs) = P x ⊎ OfOne P xs

-- as many are returned as were lent, and after one of which this holds the others are as they were lent
abbrev pub LeavesBehind : {D : Type 0} → (D → D → Type 0) → List D → List D → Type 0
LeavesBehind P [] [] = Unit {0}
LeavesBehind P (old ∷ olds) (new ∷ news) = (P old new → news ≡ olds) × LeavesBehind P olds news
LeavesBehind P olds news = ⊥

-- their names
abbrev pub names_in : {D : Type 0} → (D → SourceState) → List D → List (Option (List ℕ))
names_in state sources = map (λ s. (state s).name) sources
