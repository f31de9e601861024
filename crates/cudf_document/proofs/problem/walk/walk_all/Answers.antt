use Rattle.cudf_document.specs.Working.Kept.{AreParts}
use Rattle.cudf_document.proofs.WalkLemmas.{IsSoFar-none}
use Rattle.cudf_document.proofs.problem.walk.walk_all.Goals as goal

pub returns : goal.returns
returns c =
    c.in_ok-take_stanzas.ensures c.args.keeps
    (IsSoFar-none c.args.mode (λ ss. AreParts c.args.keeps ss c.new-kept.result) c.new-walk.result c.new-walk.ensures.declared (c.new-walk.ensures.known c.args.mode) c.new-kept.ensures)
