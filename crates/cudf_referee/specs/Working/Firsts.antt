-- Where the first package that would help is searched, and the first place atom by atom (own).
use Rattle.std.specs.Prelude.{ℕ, min, List, Option, Some, None}
use Rattle.std.specs.List.{enumerate_from}
use Rattle.cudf_problem.specs.Statuses.{is_initial}
use Rattle.cudf_problem.specs.Universe.{PlainProblem}
use Rattle.cudf_index.specs.Satisfaction.{Placed, members}
use Rattle.cudf_referee.specs.declared.referee.explainer.Among.{Among}
use Rattle.cudf_referee.specs.declared.referee.explainer.Among.TheVariants.{All, Initial}

-- the packages among which one is searched
abbrev pub searched : PlainProblem → Among → List Placed
searched problem All = enumerate_from 1 problem.packages
searched problem Initial = members (is_initial problem) problem.packages

-- the lesser one of those that are there
abbrev pub lesser_of : Option ℕ → Option ℕ → Option ℕ
lesser_of None n = n
lesser_of (Some m) None = Some m
lesser_of (Some m) (Some n) = Some (min m n)
