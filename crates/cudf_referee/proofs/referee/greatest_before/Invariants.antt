use Rattle.std.proofs.Common.{◌≡◌, ◌++◌, map}
use Rattle.cudf_value.specs.Promises.Views.{vpkgs_view}
use Rattle.cudf_problem.specs.Statuses.{is_initial}
use Rattle.cudf_index.specs.Satisfaction.{members}
use Rattle.cudf_referee.specs.Working.Before.{greatest_before}
use Rattle.cudf_referee.proofs.referee.greatest_before.Given as goal

abbrev pub invariant-loop-entry : goal.invariant-loop-entry
invariant-loop-entry l =
    l.before.items ++ map (greatest_before (members (is_initial l.problem) l.problem.packages)) (vpkgs_view l.entry-iterator)
    ≡ map (greatest_before (members (is_initial l.problem) l.problem.packages)) l.problem.request.upgrade
