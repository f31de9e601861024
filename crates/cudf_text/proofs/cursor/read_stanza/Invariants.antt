use Rattle.std.proofs.Common.{length}
use Rattle.cudf_text.specs.Working.Steps.{open_state}
use Rattle.cudf_text.specs.Working.Tracked.{tracked_properties}
use Rattle.cudf_text.proofs.ReadLemmas.{SoFar}
use Rattle.cudf_text.proofs.cursor.read_stanza.Given as goal

abbrev pub invariant-loop-line : goal.invariant-loop-line
invariant-loop-line l = SoFar l.initial.place (open_state (tracked_properties l.parts.items l.others.items) l.last) l.place

abbrev pub decreases-loop-line : goal.decreases-loop-line
decreases-loop-line l = length l.place.rest.now
