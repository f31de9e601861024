use Rattle.std.proofs.Common.{◌≡◌}
use Rattle.cudf_value.specs.Promises.Views.{clause_view, atoms_view}
use Rattle.cudf_index.specs.Satisfaction.{meets_clause_alone}
use Rattle.cudf_index.specs.Working.Places.{passes_at}
use Rattle.cudf_index.proofs.index.Index.satisfies_clause_at.Given as goal

abbrev pub invariant-loop-atom : goal.invariant-loop-atom
invariant-loop-atom l = passes_at (meets_clause_alone (atoms_view l.atom-iterator)) l.place l.self ≡ passes_at (meets_clause_alone (clause_view l.clause)) l.place l.self
