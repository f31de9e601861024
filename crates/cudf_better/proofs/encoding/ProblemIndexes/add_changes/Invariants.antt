use Rattle.std.proofs.Common.{◌≡◌, ◌++◌, map, take}
use Rattle.cudf_better.specs.Working.Sources.{change_at}
use Rattle.cudf_better.proofs.encoding.ProblemIndexes.add_changes.Given as goal

abbrev pub invariant-loop-place : goal.invariant-loop-place
invariant-loop-place l = l.literals.items ≡ l.initial.literals.items ++ map (change_at l.self.problem.now) (take l.place-index l.places)
