use Rattle.std.proofs.Common.{◌≡◌, ◌++◌, map}
use Rattle.cudf_value.specs.Promises.Views.{atom_view, clause_view, atoms_view}
use Rattle.cudf_index.specs.Satisfaction.{first_satisfying}
use Rattle.cudf_referee.specs.Working.Firsts.{searched}
use Rattle.cudf_referee.proofs.referee.explainer.Remedies.first_satisfying.Given as goal

abbrev pub invariant-loop-atom : goal.invariant-loop-atom
invariant-loop-atom l =
    (l.first ≡ first_satisfying (searched l.self l.among) (map atom_view l.yielded)) × (map atom_view l.yielded ++ atoms_view l.atom-iterator ≡ clause_view l.clause)
