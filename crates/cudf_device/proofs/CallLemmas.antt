-- No call comes after one that ends the reading or the writing.
use Rattle.std.proofs.Common.{◌≡◌, ℕ, Option, Result, arith}
use Rattle.cudf_device.specs.Device.{SinkState}
use Rattle.cudf_device.specs.declared.device.Trouble.{Trouble}
use Rattle.cudf_device.specs.Readers.{IsLast}
use Rattle.cudf_device.specs.Writers.{StopsWriting}

-- no call counts
pub none_more : (count : Result ℕ Trouble → ℕ) (n : ℕ) (last : Option (Result ℕ Trouble)) → IsLast count n n last
none_more count n last = record { once = omega arith; at_last = λ below. absurd (omega arith) }

-- no write failed
pub calm_writes : (a b : SinkState) → a.failures ≡ b.failures → StopsWriting (record { before = a; after = b })
calm_writes a b calm = record { once = omega (arith, calm); at_last = λ below. absurd (omega (arith, calm, below)) }

-- none had failed before these
pub stops_later : (start a b : SinkState) → start.failures ≡ a.failures → StopsWriting (record { before = a; after = b }) → StopsWriting (record { before = start; after = b })
stops_later start a b calm stops = record { once = omega (arith, calm, stops.once); at_last = λ below. stops.at_last (omega (arith, calm, below)) }
