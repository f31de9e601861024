use Rattle.std.proofs.Common.{length}
use Rattle.cudf_document.proofs.LineLemmas.{LinesSoFar}
use Rattle.cudf_document.proofs.solution.stanza_lines.Given as goal

abbrev pub invariant-stanzas : goal.invariant-stanzas
invariant-stanzas l = LinesSoFar l.problem.packages l.lines.items l.stanzas l.fn.stanzas

abbrev pub decreases-stanzas : goal.decreases-stanzas
decreases-stanzas l = length l.stanzas.stanzas
