use Rattle.std.proofs.Common.{ap, ◌∙◌}
use Rattle.cudf_text.specs.Promises.Views.{stanza_view}
use Rattle.cudf_document.specs.Working.Misplaced.{misplaces}
use Rattle.cudf_document.proofs.MisplacedLemmas.{none_misplaced, meant_unmarked}
use Rattle.cudf_document.proofs.names.first_misplaced.Goals as goal

pub returns-in-None : goal.returns-in-None
returns-in-None c =
    none_misplaced (misplaces c.args.document c.args.mark) (stanza_view c.args.stanza.now).properties
    (λ name. ap (λ m. misplaces c.args.document m name) c.in-None.is ∙ meant_unmarked c.args.document name)
