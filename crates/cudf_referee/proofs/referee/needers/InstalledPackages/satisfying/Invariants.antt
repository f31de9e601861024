-- No package satisfies one of the atoms so far.
use Rattle.std.proofs.Common.{◌≡◌}
use Rattle.cudf_value.specs.Promises.Views.{atoms_view, clause_view}
use Rattle.cudf_index.specs.Promises.Members.{other_than}
use Rattle.cudf_referee.specs.Working.Needers.{some_satisfying}
use Rattle.cudf_referee.proofs.referee.needers.InstalledPackages.satisfying.Given as goal

abbrev pub invariant-loop-atom : goal.invariant-loop-atom
invariant-loop-atom l = some_satisfying (other_than l.except l.self) (atoms_view l.atom-iterator) ≡ some_satisfying (other_than l.except l.self) (clause_view l.clause)
