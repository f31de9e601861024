use Rattle.std.proofs.Common.{length}
use Rattle.cudf_document.specs.Working.Proposed.{GoesOn}
use Rattle.cudf_document.proofs.proposed.proposed_of.Given as goal

abbrev pub invariant-stanzas : goal.invariant-stanzas
invariant-stanzas l = GoesOn l.fn.mode l.fn.problem.extra_names l.reader l.stanzas l.fn.stanzas

abbrev pub decreases-stanzas : goal.decreases-stanzas
decreases-stanzas l = length l.stanzas.stanzas
