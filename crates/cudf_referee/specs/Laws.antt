-- Laws over the definitions alone: own.
use Rattle.std.specs.Prelude.{◌≡◌, ℕ, Bool, List, map, IsTrue}
use Rattle.cudf_problem.specs.Universe.{PlainProblem}
use Rattle.cudf_problem.specs.Statuses.{PlainUnknown, ascend_above}
use Rattle.cudf_problem.specs.Documents.{is_empty}
use Rattle.cudf_job.specs.Keys.{ascend}
use Rattle.cudf_referee.specs.Proposals.{proposal}
use Rattle.cudf_referee.specs.Violations.{listing}
use Rattle.cudf_referee.specs.Solutions.{is_solution}

-- a proposal is a solution, in positive words, exactly where no instance is violated
abbrev pub SolutionIsEmpty : Type 0
SolutionIsEmpty = (problem : PlainProblem) (was_installed is_installed : ℕ → Bool) (unknown : List PlainUnknown)
    → let s = proposal problem was_installed is_installed unknown in is_solution s ≡ is_empty (listing s)

-- the keys of the violated instances ascend strictly, where the numbers of the unknown stanzas do
abbrev pub ListingAscends : Type 0
ListingAscends = (problem : PlainProblem) (was_installed is_installed : ℕ → Bool) (unknown : List PlainUnknown)
    → IsTrue (ascend_above 0 unknown)
    → IsTrue (ascend (map (λ i. i.key) (listing (proposal problem was_installed is_installed unknown))))
