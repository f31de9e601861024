-- Where a text may be cut: after an ASCII byte.
use Rattle.std.proofs.Common.{◌≡◌, ℕ, zero, suc, ◌+◌, ◌-◌, ◌<◌, ◌≤◌, List, length, get_or, IsUtf8, IsCharBoundary, subst, arith}
use Rattle.std.proofs.lemmas.Str.{IsCharBoundary-start, lead_after_ascii}

-- a character begins there
begins_after : (bs : List ℕ) (n : ℕ) → IsUtf8 bs → 0 < n → (n < length bs → get_or bs (n - 1) 0 < 128) → n < length bs → 128 ≤ get_or bs n 0 → 192 ≤ get_or bs n 0
begins_after bs n utf8 some ascii inside =
    let e : n - 1 + 1 ≡ n = omega arith in
    let P : ℕ → Type 0 = λ m. 128 ≤ get_or bs m 0 → 192 ≤ get_or bs m 0 in
    subst P e (lead_after_ascii bs (n - 1) utf8 (ascii inside) (omega arith))

pub boundary_after : (bs : List ℕ) (n : ℕ) → IsUtf8 bs → n ≤ length bs → (0 < n → n < length bs → get_or bs (n - 1) 0 < 128) → IsCharBoundary bs n
boundary_after bs zero utf8 inside ascii = IsCharBoundary-start bs utf8
boundary_after bs (suc k) utf8 inside ascii = (inside, begins_after bs (suc k) utf8 (omega arith) (ascii (omega arith)))
