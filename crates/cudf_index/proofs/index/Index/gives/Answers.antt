use Rattle.std.proofs.Common.{ap, ◌∙◌, not}
use Rattle.cudf_problem.specs.Documents.{is_empty}
use Rattle.cudf_index.specs.Working.Gathering.{given_of}
use Rattle.cudf_index.proofs.index.Index.gives.Goals as goal

pub returns-clause-answer : goal.returns-clause-answer
returns-clause-answer c =
    c.has.ensures ∙ c.self.invariant.2 c.args.name.now
    ∙ ap (λ given. not (is_empty given)) ((c.self.invariant.0 c.args.name.now).1 ∙ ap (given_of c.args.name.now) c.self.view_is)
