-- What std's `parse` says of a text is what the definitions of numbers say.
use Rattle.std.proofs.Common.{◌≡◌, ◌≢◌, inl, inr, get_or, ℕ, ◌+◌, ◌^◌, ◌<◌, ℤ, pos, neg_ℤ, true, ◌&&◌, nat_lt, List, length, drop, Some, option_map, Result, Ok, Err, refl, ap, ◌∙◌, arith}
use Rattle.std.specs.Result.{OkIff, result_ok}
use Rattle.std.specs.Str.{all_ascii_digits}
use Rattle.std.specs.Str.Parse.{digits_value, without_leading_plus, ParsesUnsigned, ParsesSigned}
use Rattle.std.proofs.lemmas.Bool.{and_from, and_parts, lt-ltb, ltb-true, eq-eqb, ne_eqb, cases_eq, false_from_ne_true}
use Rattle.std.proofs.lemmas.Iterator.Adapters.{option_map_id}
use Rattle.std.proofs.lemmas.Str.Parse.{IsNumeralModel, numerals_by_value, tells_all_ascii_digits, parse_signed_minus, parse_signed_plus, parse_signed_plain}
use mir.Syntax.{w64}
use Rattle.cudf_value.specs.Numbers.{number_below, natural, signed}
use Rattle.cudf_value.specs.Working.Rests.{is_number_below}

pub own : IsNumeralModel (λ ds. all_ascii_digits ds ≡ true) (digits_value 10)
own = numerals_by_value _ tells_all_ascii_digits

-- the test of a number, as a fact
abbrev pub IsNumberBelow : ℕ → List ℕ → Type 0
IsNumberBelow limit ds = (all_ascii_digits ds ≡ true) × (0 < length ds) × (digits_value 10 ds < limit)

pub test_true : (limit : ℕ) (ds : List ℕ) → IsNumberBelow limit ds → is_number_below limit ds ≡ true
test_true limit ds h = and_from _ _ (and_from _ _ h.0 (lt-ltb _ _ h.1)) (lt-ltb _ _ h.2)

pub test_tells : (limit : ℕ) (ds : List ℕ) → is_number_below limit ds ≡ true → IsNumberBelow limit ds
test_tells limit ds t =
    let outer = and_parts (all_ascii_digits ds && nat_lt 0 (length ds)) (nat_lt (digits_value 10 ds) limit) t in
    let first = and_parts (all_ascii_digits ds) (nat_lt 0 (length ds)) outer.0 in
    (first.0, ltb-true 0 (length ds) first.1, ltb-true (digits_value 10 ds) limit outer.1)

OkIff-along : {T E : Type 0} (r : Result T E) {P Q : Type 0} (v : T) → (P → Q) → (Q → P) → OkIff r P v → OkIff r Q v
OkIff-along (Ok x) v to from h = (to h.0, h.1)
OkIff-along (Err e) v to from h = λ q. h (from q)

-- the value of a number below the limit, and nothing of another text
number_read : {T E : Type 0} (f : ℕ → T) (limit : ℕ) (ds : List ℕ) (r : Result T E) → OkIff r (IsNumberBelow limit ds) (f (digits_value 10 ds))
    → result_ok r ≡ option_map f (number_below limit ds)
number_read f limit ds (Ok x) h = rw (test_true limit ds h.0) (ap Some h.1)
number_read f limit ds (Err e) h = rw (false_from_ne_true (is_number_below limit ds) (λ t. h (test_tells limit ds t))) refl

pub natural_read : {E : Type 0} (bs : List ℕ) (r : Result ℕ E) → ParsesUnsigned 64 10 bs r → result_ok r ≡ natural bs
unfolding natural
natural_read bs r h =
    number_read (λ n. n) (2 ^ 64) (without_leading_plus bs) r
    (OkIff-along r _ (λ p. (own.from _ p.0.1, p.0.0, p.1)) (λ q. ((q.1, own.to _ q.0), q.2)) h)
    ∙ option_map_id (number_below (2 ^ 64) (without_leading_plus bs))

-- the same at a minus, at a plus, and at neither
minus_read : {E : Type 0} (bs : List ℕ) (r : Result ℤ E) → ParsesSigned w64 10 bs r → get_or bs 0 0 ≡ 45 → result_ok r ≡ signed bs
unfolding signed
minus_read bs r h minus =
    rw (eq-eqb (get_or bs 0 0) 45 minus)
    (number_read (λ n. neg_ℤ (pos n)) (2 ^ 63 + 1) (drop 1 bs) r
    (OkIff-along r _ (λ p. (p.0, p.1, omega (arith, p.2))) (λ q. (q.0, q.1, omega (arith, q.2))) (parse_signed_minus own w64 bs r h minus)))

plus_read : {E : Type 0} (bs : List ℕ) (r : Result ℤ E) → ParsesSigned w64 10 bs r → get_or bs 0 0 ≡ 43 → get_or bs 0 0 ≢ 45 → result_ok r ≡ signed bs
unfolding signed
plus_read bs r h plus not_minus =
    rw (ne_eqb (get_or bs 0 0) 45 not_minus, eq-eqb (get_or bs 0 0) 43 plus)
    (number_read (λ n. pos n) (2 ^ 63) (drop 1 bs) r (parse_signed_plus own w64 bs r h plus))

plain_read : {E : Type 0} (bs : List ℕ) (r : Result ℤ E) → ParsesSigned w64 10 bs r → get_or bs 0 0 ≢ 43 → get_or bs 0 0 ≢ 45 → result_ok r ≡ signed bs
unfolding signed
plain_read bs r h not_plus not_minus =
    rw (ne_eqb (get_or bs 0 0) 45 not_minus, ne_eqb (get_or bs 0 0) 43 not_plus)
    (number_read (λ n. pos n) (2 ^ 63) bs r (parse_signed_plain own w64 bs r h not_plus not_minus))

pub signed_read : {E : Type 0} (bs : List ℕ) (r : Result ℤ E) → ParsesSigned w64 10 bs r → result_ok r ≡ signed bs
signed_read bs r h =
    elim (cases_eq (get_or bs 0 0) 45) [
      | inl minus ↦ minus_read bs r h minus
      | inr not_minus ↦ elim (cases_eq (get_or bs 0 0) 43) [
        | inl plus ↦ plus_read bs r h plus not_minus
        | inr not_plus ↦ plain_read bs r h not_plus not_minus
      ]
    ]
