use Rattle.std.proofs.Common.{Bool, [], length}
use Rattle.cudf_document.specs.Working.Kept.{AreParts}
use Rattle.cudf_document.specs.Working.Walks.{texts, GoesOn, IsSoFar}
use Rattle.cudf_document.proofs.problem.walk.take_stanzas.Given as goal

abbrev pub invariant-stanzas : goal.invariant-stanzas
invariant-stanzas l =
    (keeps : Bool) → IsSoFar l.mode (λ ss. AreParts keeps ss l.initial.kept) l.initial.walk [] →
    GoesOn l.mode (λ ss. AreParts keeps ss l.kept) l.walk l.is_first (texts l.required.items) l.stanzas l.fn.stanzas

abbrev pub decreases-stanzas : goal.decreases-stanzas
decreases-stanzas l = length l.stanzas.stanzas
