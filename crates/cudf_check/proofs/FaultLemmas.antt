-- The line of a fault, as it is printed.
use Rattle.std.proofs.Common.{◌≡◌, ℕ, List, [], ◌∷◌, ◌++◌, append_assoc}
use Rattle.cudf_check.specs.Report.{line}

-- whose it is, and then which
pub fault_line : (before whose number colon kind added : List ℕ) → before ++ whose ++ (number ++ colon ++ kind ++ added) ++ 10 ∷ [] ≡ line (before ++ whose ++ number ++ colon ++ kind ++ added)
fault_line before whose number colon kind added = simp append_assoc
