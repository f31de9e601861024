-- The CNF of a problem, held or too large.
use Rattle.std.proofs.Common.{◌≡◌, ℕ, ◌<◌, ◌≤◌, ◌^◌, ◌||◌, true, false, nat_lt, List, length, Option, Some, None, subst, ap, arith}
use Rattle.std.proofs.lemmas.Bool.Decides.{nat_tests}
use Rattle.cudf_problem.specs.Universe.{PlainProblem}
use Rattle.cudf_cnf.specs.declared.clauses.Collector.{Collector}
use Rattle.cudf_cnf.specs.Cnf.{Keyed, cnf, is_too_large}
use Rattle.cudf_cnf.specs.Encodings.{IsEncoded, PlainKeyedClauses}
use Rattle.cudf_cnf.specs.Working.Collecting.{IsHeld, Received}
use Rattle.cudf_cnf.proofs.TestLemmas.{or_right}

few_packages : (n : ℕ) → n < 2 ^ 32 → nat_lt 4294967295 n ≡ false
few_packages n h = grind (arith, nat_tests)

not_above : (n : ℕ) → n ≤ 4294967295 → nat_lt 4294967295 n ≡ false
not_above n h = grind (arith, nat_tests)

above : (n : ℕ) → 4294967295 < n → nat_lt 4294967295 n ≡ true
above n h = grind (arith, nat_tests)

-- a collector that holds all
pub all_held : (problem : PlainProblem) (room : ℕ) (c : Collector) → Received (cnf problem) c → c.room ≡ room → c.clauses.places ≡ length problem.packages → IsHeld problem room (Some c.clauses)
all_held problem room c r same places = (
  omega (arith, r.fits, same, ap (λ (ks : List Keyed). length ks) r.held),
  (λ i. record { places = places i; clauses = r.held i }),
)

pub some_encoded : (problem : PlainProblem) (room : ℕ) (held : PlainKeyedClauses) → length problem.packages < 2 ^ 32 → room ≤ 4294967295 → IsHeld problem room (Some held) → IsEncoded problem (Some held)
some_encoded problem room held few small h =
    let within : length (cnf problem) ≤ 4294967295 = omega (arith, h.0) in
    ((λ i. few_packages (length problem.packages) few i || not_above (length (cnf problem)) within i), h.1)

pub too_large : (problem : PlainProblem) → nat_lt 4294967295 (length (cnf problem)) ≡ true → is_too_large problem ≡ true
too_large problem h = or_right (nat_lt 4294967295 (length problem.packages)) (nat_lt 4294967295 (length (cnf problem))) h

pub any_encoded : (problem : PlainProblem) (o : Option PlainKeyedClauses) → length problem.packages < 2 ^ 32 → IsHeld problem 4294967295 o → IsEncoded problem o
any_encoded problem (Some held) few h = some_encoded problem 4294967295 held few (omega arith) h
any_encoded problem None few h = too_large problem (above (length (cnf problem)) h)

pub many_packages : (problem : PlainProblem) → 4294967295 < length problem.packages → is_too_large problem ≡ true
many_packages problem h = ap (λ b. b || nat_lt 4294967295 (length (cnf problem))) (above (length problem.packages) h)

-- where there is no room
pub none_held : (problem : PlainProblem) (room : ℕ) (c : Collector) → c.room < length (cnf problem) → c.room ≡ room → IsHeld problem room None
none_held problem room c h same = subst (λ (n : ℕ). n < length (cnf problem)) same h
