use Rattle.cudf_text.specs.Promises.Views.{stanza_view}
use Rattle.cudf_document.proofs.PartsLemmas.{passed}
use Rattle.cudf_document.proofs.problem.keeping.ProblemBuilder.pass.Goals as goal

pub returns : goal.returns
returns c = λ keeps before no_package no_request so_far. passed keeps before (stanza_view c.args.stanza.now) c.args.self.now no_package no_request so_far
