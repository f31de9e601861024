use Rattle.std.proofs.Common.{Some, option_map, is_some, if◌then◌else◌, ap, ◌∙◌}
use Rattle.cudf_text.specs.Promises.Views.{stanza_view}
use Rattle.cudf_problem.specs.Promises.Views.{request_view}
use Rattle.cudf_document.proofs.PartsLemmas.{request_kept}
use Rattle.cudf_document.proofs.problem.keeping.ProblemBuilder.take_request.Goals as goal

pub returns-clause-kept : goal.returns-clause-kept
returns-clause-kept c = λ keeps before marked so_far.
    let old = option_map request_view c.args.self.now.request in
    request_kept keeps before (stanza_view c.args.stanza.now) c.args.self.now c.keep_first.new.self marked so_far
    c.keep_first.ensures.keeps
    (c.keep_first.ensures.request
    ∙ ap (λ r. if is_some old then old else Some r) c.in_ok-fault.ensures.request)
    c.keep_first.ensures.packages
