-- The bytes that a document in memory has given, for proofs.
use Rattle.std.specs.Prelude.{ℕ, List, length, ◌-◌}

-- how many bytes a document that has these left had given, if it had 2^64 - 1 at first: nothing but differences of it count
abbrev pub given_before : List ℕ → ℕ
given_before rest = 18446744073709551615 - length rest
