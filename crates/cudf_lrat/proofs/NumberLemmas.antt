-- Digits, one at a time.
use Rattle.std.proofs.Common.{◌≡◌, ℕ, ◌+◌, ◌-◌, ◌*◌, ◌^◌, ◌<◌, ◌≤◌, Bool, true, false, ◌&&◌, if◌then◌else◌, ltb, List, [], ◌∷◌, Option, Some, None, refl, arith}
use Rattle.std.specs.Prelude.{SomeIff, option_and_then}
use Rattle.std.specs.Char.{digit_value, is_ascii_digit}
use Rattle.std.specs.Int.{IsInRange}
use Rattle.std.specs.Str.{all_ascii_digits}
use Rattle.std.specs.Str.Parse.{digits_value_after}
use Rattle.std.proofs.lemmas.Bool.{le-ltb}
use Rattle.std.proofs.lemmas.Str.{digit_value_digit}
use Rattle.cudf_lrat.specs.Working.Numbers.{number_after}

after-le : (n : ℕ) (ds : List ℕ) → n ≤ digits_value_after 10 n ds
after-le n [] = omega arith
after-le n (c ∷ cs) = let more : n * 10 + digit_value c ≤ digits_value_after 10 (n * 10 + digit_value c) cs = after-le (n * 10 + digit_value c) cs in omega arith

too_large : (b : Bool) (n v : ℕ) → 2 ^ 64 ≤ n → (if b && ltb n (2 ^ 64) then Some v else None) ≡ None
too_large true n v large = rw (le-ltb n (2 ^ 64) large) refl
too_large false n v large = refl

pub number_after-large : (value byte : ℕ) (digits : List ℕ) → IsInRange 48 57 byte → 2 ^ 64 ≤ value * 10 + (byte - 48) → number_after value (byte ∷ digits) ≡ None
unfolding number_after
number_after-large value byte digits range large =
    let same : digit_value byte + 48 ≡ byte = digit_value_digit byte range in
    let more : value * 10 + digit_value byte ≤ digits_value_after 10 (value * 10 + digit_value byte) digits = after-le (value * 10 + digit_value byte) digits in
    too_large (is_ascii_digit byte && all_ascii_digits digits) (digits_value_after 10 (value * 10 + digit_value byte) digits) _ (omega arith)

number_after-digit : (value byte next : ℕ) (digits : List ℕ) → is_ascii_digit byte ≡ true → IsInRange 48 57 byte → next ≡ value * 10 + (byte - 48) → number_after value (byte ∷ digits) ≡ number_after next digits
unfolding number_after
number_after-digit value byte next digits holds range is =
    let same : digit_value byte + 48 ≡ byte = digit_value_digit byte range in
    let sum : value * 10 + digit_value byte ≡ next = omega arith in
    rw (holds, sum) refl

pub number_after-sum : (value byte tens digit : ℕ) (digits : List ℕ) (r : Option ℕ) → is_ascii_digit byte ≡ true → IsInRange 48 57 byte → tens ≡ value * 10 → digit ≡ byte - 48 → SomeIff r (tens + digit < 2 ^ 64) (tens + digit)
    → number_after value (byte ∷ digits) ≡ option_and_then (λ v. number_after v digits) r
number_after-sum value byte tens digit digits None holds range ten is large =
    let over : 2 ^ 64 ≤ value * 10 + (byte - 48) = omega (arith, large) in
    number_after-large value byte digits range over
number_after-sum value byte tens digit digits (Some next) holds range ten is fits =
    let sum : next ≡ value * 10 + (byte - 48) = omega (arith, fits.1) in
    number_after-digit value byte next digits holds range sum
