-- What contracts see of readers and writers, and how one answer changes it.
use Rattle.std.specs.Prelude.{ℕ, zero, suc, List, Option, Result, Ok, Err}
use Rattle.cudf_device.specs.declared.device.Trouble.{Trouble}
use Rattle.cudf_device.specs.declared.device.Trouble.TheVariants.{Failed}

-- a source: its name, where lines name it; the bytes that it will still give, where it tells them; how many calls of
-- `read` it has had, how many of them answered `Failed`, and how many answered 0 bytes; how many bytes it has given; what
-- the last call answered
pub record SourceState : Type 0 where
  pub name : Option (List ℕ)
  pub remaining : Option (List ℕ)
  pub calls : ℕ
  pub failures : ℕ
  pub ends : ℕ
  pub given : ℕ
  pub last : Option (Result ℕ Trouble)

-- a sink: the bytes that it has taken, where it tells them; how many calls of `write` answered a trouble or took no byte;
-- what the last call answered
pub record SinkState : Type 0 where
  pub contents : Option (List ℕ)
  pub failures : ℕ
  pub last : Option (Result ℕ Trouble)

-- one failure where the read failed; an interrupted read is none
abbrev pub failed_reads : Result ℕ Trouble → ℕ
failed_reads (Err Failed) = 1
failed_reads answer = 0

-- one end where the read answered 0 bytes
abbrev pub ended_reads : Result ℕ Trouble → ℕ
ended_reads (Ok zero) = 1
ended_reads answer = 0

-- the bytes that the read gave
abbrev pub bytes_given : Result ℕ Trouble → ℕ
bytes_given (Ok n) = n
bytes_given (Err trouble) = 0

-- one failure, unless the write took a byte
abbrev pub failed_writes : Result ℕ Trouble → ℕ
failed_writes (Ok (suc n)) = 0
failed_writes answer = 1
