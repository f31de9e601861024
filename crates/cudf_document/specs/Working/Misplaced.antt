-- The names that have no meaning in a stanza, by what document it is of.
use Rattle.std.specs.Prelude.{ℕ, Bool, List, Option}
use Rattle.cudf_problem.specs.declared.problem.Postmark.{Postmark}
use Rattle.cudf_document.specs.declared.names.DocumentKind.{DocumentKind}
use Rattle.cudf_document.specs.declared.names.DocumentKind.TheVariants.{Problem, Solution}
use Rattle.cudf_document.specs.ProblemFaults.{problem_misplaces}
use Rattle.cudf_document.specs.SolutionFaults.{solution_misplaces}

abbrev pub misplaces : DocumentKind → Option Postmark → List ℕ → Bool
misplaces Problem = problem_misplaces
misplaces Solution = solution_misplaces
