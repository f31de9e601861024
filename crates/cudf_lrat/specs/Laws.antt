-- The law above the definitions: what a core proves.
use Rattle.std.specs.Prelude.{◌≡◌, ℕ, List}
use Rattle.cudf_lrat.specs.Answers.{checked, refuted}
use Rattle.cudf_lrat.specs.Literals.{IsCore}
use Rattle.cudf_lrat.specs.declared.cnf.Literal.{Literal}

-- the core of a proof is numbers of clauses of the CNF, which no assignment satisfies all
abbrev pub RefutedIsCore : Type 0
RefutedIsCore = (variables : ℕ) (cnf : List (List Literal)) (text core : List ℕ) → checked variables cnf text ≡ refuted core → IsCore cnf core
