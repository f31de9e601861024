use Rattle.std.proofs.lemmas.Result.{IfOk-weaker}
use Rattle.cudf_document.proofs.ExtraLemmas.{words_known}
use Rattle.cudf_document.proofs.proposed.package.names_in.Goals as goal

pub returns-in-Strict : goal.returns-in-Strict
returns-in-Strict c = λ strict.
    IfOk-weaker c.names_of.result _ _ (λ names are. words_known c.extra_names.result.now names c.args.problem.now.extra_names are c.extra_names.ensures) c.names_of.ensures
