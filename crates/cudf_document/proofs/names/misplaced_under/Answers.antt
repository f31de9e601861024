use Rattle.std.proofs.Common.{Some, ap, ◌∙◌}
use Rattle.cudf_text.specs.Promises.Views.{stanza_view}
use Rattle.cudf_document.specs.Working.Misplaced.{misplaces}
use Rattle.cudf_document.proofs.MisplacedLemmas.{none_misplaced, meant_in_package}
use Rattle.cudf_document.proofs.names.misplaced_under.Goals as goal

pub returns-in-Package : goal.returns-in-Package
returns-in-Package c =
    none_misplaced (misplaces c.args.document (Some c.args.mark)) (stanza_view c.args.stanza.now).properties
    (λ name. ap (λ m. misplaces c.args.document (Some m) name) c.in-Package.is ∙ meant_in_package c.args.document name)
