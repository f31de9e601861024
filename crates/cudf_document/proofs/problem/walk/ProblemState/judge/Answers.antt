use Rattle.std.proofs.Common.{ap, ◌∙◌}
use Rattle.cudf_problem.specs.declared.problem.Postmark.TheVariants.{Package, Request}
use Rattle.cudf_problem.specs.Documents.{marks}
use Rattle.cudf_document.proofs.problem.walk.ProblemState.judge.Goals as goal

pub returns-in-None-clause-kept : goal.returns-in-None-clause-kept
returns-in-None-clause-kept c = λ keeps before marked ds none so_far.
    let unmarked = marked ∙ c.in-None.is in
    c.pass-in-None.ensures keeps before (ap (marks Package) unmarked) (ap (marks Request) unmarked) so_far
