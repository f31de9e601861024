use Rattle.std.proofs.Common.{◌≡◌, true, [], map, take}
use Rattle.cudf_text.specs.Promises.Views.{own_stanza_view}
use Rattle.cudf_problem.specs.Documents.{is_empty}
use Rattle.cudf_problem.specs.Preamble.{declared}
use Rattle.cudf_document.specs.ProblemFaults.{required_names}
use Rattle.cudf_document.specs.Working.Kept.{AreParts}
use Rattle.cudf_document.specs.Working.Walks.{texts, IsSoFar}
use Rattle.cudf_document.proofs.problem.take_lent.Given as goal

abbrev pub invariant-loop-stanza : goal.invariant-loop-stanza
invariant-loop-stanza l =
    IsSoFar l.mode (λ ss. AreParts true ss l.initial.parts) l.initial.walk [] →
    (l.is_first ≡ is_empty (map own_stanza_view (take l.stanza-index l.text.stanzas.items)))
    × (texts l.required.items ≡ required_names l.mode (declared (map own_stanza_view (take l.stanza-index l.text.stanzas.items))))
    × IsSoFar l.mode (λ ss. AreParts true ss l.parts) l.walk (map own_stanza_view (take l.stanza-index l.text.stanzas.items))
