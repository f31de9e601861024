-- What holds of a checker between two lines.
use Rattle.std.specs.Prelude.{◌≡◌, ◌+◌, ◌≤◌, All, length}
use Rattle.cudf_lrat.specs.Literals.{PlainCnf}
use Rattle.cudf_lrat.specs.Working.Indices.{IsAfter}
use Rattle.cudf_lrat.specs.declared.checker.Checker.{Checker}

pub record IsReady (cnf : PlainCnf) (checker : Checker) : Type 0 where
  pub after : IsAfter cnf checker.steps
  -- there is room for each variable
  pub sized : length checker.assignment.items ≡ cnf.variables + 1
  pub fresh : All (λ m. m.step ≤ checker.last) checker.assignment.items
