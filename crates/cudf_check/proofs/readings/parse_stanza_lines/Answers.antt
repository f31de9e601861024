use Rattle.std.proofs.Common.{map, ap, ◌∙◌}
use Rattle.std.proofs.lemmas.Result.{IfOk-weaker}
use Rattle.cudf_document.specs.Details.{stanza_line}
use Rattle.cudf_check.proofs.readings.parse_stanza_lines.Goals as goal

pub returns-in-Ok : goal.returns-in-Ok
returns-in-Ok c = λ utf8 told.
    IfOk-weaker c.stanza_lines.result _ _ (λ lines is. is ∙ ap (λ text. map (stanza_line text.stanzas) c.args.problem.now.packages) c.in-Ok.ensures.utf8.1)
    c.stanza_lines.ensures
