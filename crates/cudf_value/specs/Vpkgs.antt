-- The types `vpkg` and `veqpkg` (the type library), and what a bound admits.
use Rattle.std.specs.Prelude.{ℕ, Bool, true, false, not, ◌==◌, nat_lt, nat_le, List, [], ◌∷◌, length, take_while, find, Option, Some, None, option_map, option_and_then, bytes_eq, codes, if◌then◌else◌}
use Rattle.cudf_value.specs.declared.vpkg.Relop.{Relop}
use Rattle.cudf_value.specs.declared.vpkg.Relop.TheVariants.{Eq, Neq, Geq, Gt, Leq, Lt}
use Rattle.cudf_text.specs.Chars.{trim_start, is_pkgname_char, is_operator_char, rest_after}
use Rattle.cudf_value.specs.Parts.{some_if}
use Rattle.cudf_value.specs.Numbers.{positive}

-- a vpkg, its name as a plain text
pub record PlainVpkg : Type 0 where
  pub name : List ℕ
  pub bound : Option (Relop × ℕ)

-- each operator as it is written, and whether a number n stands so to m
abbrev pub compared : Relop → List ℕ × (ℕ → ℕ → Bool)
compared Eq = (codes "=", λ n m. n == m)
compared Neq = (codes "!=", λ n m. not (n == m))
compared Geq = (codes ">=", λ n m. nat_le m n)
compared Gt = (codes ">", λ n m. nat_lt m n)
compared Leq = (codes "<=", λ n m. nat_le n m)
compared Lt = (codes "<", λ n m. nat_lt n m)

abbrev pub relop_text : Relop → List ℕ
relop_text r = (compared r).0

-- the operator that is written so
abbrev pub relop : List ℕ → Option Relop
relop text = find (λ r. bytes_eq text (relop_text r)) (Eq ∷ Neq ∷ Geq ∷ Gt ∷ Leq ∷ Lt ∷ [])

-- an operator, and a posint, with blanks or none before it
abbrev pub bound_of : List ℕ → Option (Relop × ℕ)
bound_of text = option_and_then (λ r. option_map (λ n. (r, n)) (positive (trim_start (rest_after is_operator_char text)))) (relop (take_while is_operator_char text))

-- a vpkg: the longest name at the front, and after it nothing, or a bound, with blanks or none before it
unfoldable pub vpkg : List ℕ → Option PlainVpkg
vpkg text = let name = take_while is_pkgname_char text in let rest = rest_after is_pkgname_char text in
    if length name == 0 then None else (if length rest == 0 then Some (record { name = name; bound = None })
    else option_map (λ b. record { name = name; bound = Some b }) (bound_of (trim_start rest)))

-- no bound, or one by `=`
abbrev pub is_exact : Option (Relop × ℕ) → Bool
is_exact None = true
is_exact (Some (Eq, n)) = true
is_exact (Some (_, n)) = false

-- a veqpkg is a vpkg of one version, or of all
unfoldable pub veqpkg : List ℕ → Option PlainVpkg
veqpkg text = option_and_then (λ v. some_if (is_exact v.bound) v) (vpkg text)

-- the number n is one that the bound admits
abbrev pub meets : Option (Relop × ℕ) → ℕ → Bool
meets None n = true
meets (Some (r, m)) n = (compared r).1 n m
