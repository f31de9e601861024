use Rattle.std.proofs.Common.{◌≡◌, ℕ, ◌||◌}
use Rattle.cudf_value.specs.Promises.Views.{clause_view, atoms_view}
use Rattle.cudf_index.specs.Satisfaction.{meets_clause_alone}
use Rattle.cudf_index.specs.Working.Places.{passes_at}
use Rattle.cudf_index.specs.Working.Questions.{will_have}
use Rattle.cudf_index.proofs.index.Index.put_or_ask.Given as goal

abbrev pub invariant-loop-atom : goal.invariant-loop-atom
invariant-loop-atom l = (place : ℕ) → (will_have l.places.items l.questions.items l.self place || passes_at (meets_clause_alone (atoms_view l.atom-iterator)) place l.self)
    ≡ (will_have l.fn.places.items l.fn.questions.items l.self place || passes_at (meets_clause_alone (clause_view l.clause)) place l.self)
