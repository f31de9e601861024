use Rattle.std.proofs.Common.{map, take}
use Rattle.cudf_text.specs.Promises.Views.{own_stanza_view}
use Rattle.cudf_document.specs.Working.Proposed.{IsRead}
use Rattle.cudf_document.proofs.proposed.proposed_in.Given as goal

abbrev pub invariant-loop-stanza : goal.invariant-loop-stanza
invariant-loop-stanza l = IsRead l.fn.mode l.fn.problem.extra_names (map own_stanza_view (take l.stanza-index l.text.stanzas.items)) l.reader
