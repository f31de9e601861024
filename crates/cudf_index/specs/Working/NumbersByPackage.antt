-- The numbers of packages, as they are counted (own).
use Rattle.std.specs.Prelude.{ℕ, Bool, ◌==◌, ◌-◌, List, [], ◌∷◌, length, Option, Some, None}
use Rattle.std.specs.List.{count_by}
use Rattle.cudf_value.specs.declared.vpkg.Relop.{Relop}
use Rattle.cudf_value.specs.declared.vpkg.Relop.TheVariants.{Eq, Neq, Geq, Gt, Leq, Lt}
use Rattle.cudf_value.specs.Vpkgs.{meets}

-- the number, where there is one alone
abbrev pub sole_number : List ℕ → Option ℕ
sole_number [] = None
sole_number (n ∷ []) = Some n
sole_number (n ∷ m ∷ ms) = None

-- of packages that give numbers: how many give one that meets the bound, by the least number of each, the greatest, all,
-- and those that stand alone
abbrev pub count_over : Option (Relop × ℕ) → List ℕ → List ℕ → List ℕ → List ℕ → ℕ
count_over None least greatest each only = length least
count_over (Some (Eq, n)) least greatest each only = count_by (λ m. m == n) each
count_over (Some (Neq, n)) least greatest each only = length least - count_by (λ m. m == n) only
count_over (Some (Geq, n)) least greatest each only = count_by (meets (Some (Geq, n))) greatest
count_over (Some (Gt, n)) least greatest each only = count_by (meets (Some (Gt, n))) greatest
count_over (Some (Leq, n)) least greatest each only = count_by (meets (Some (Leq, n))) least
count_over (Some (Lt, n)) least greatest each only = count_by (meets (Some (Lt, n))) least

abbrev pub is_same : ℕ → ℕ → Bool
is_same m n = m == n
