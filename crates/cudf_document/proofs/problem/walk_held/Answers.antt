use Rattle.std.proofs.Common.{true}
use Rattle.cudf_text.specs.Promises.Views.{text_view}
use Rattle.cudf_document.specs.Working.Kept.{AreParts}
use Rattle.cudf_document.proofs.WalkLemmas.{IsSoFar-none, IsSoFar-end}
use Rattle.cudf_document.proofs.problem.walk_held.Goals as goal

pub returns : goal.returns
returns c =
    IsSoFar-end c.args.mode (λ ss. AreParts true ss c.take_lent.new.parts) c.take_lent.new.walk c.end.new.self (text_view c.args.text.now)
    (c.in_ok-take_lent.ensures (IsSoFar-none c.args.mode (λ ss. AreParts true ss c.new-parts.result) c.new-walk.result c.new-walk.ensures.declared (c.new-walk.ensures.known c.args.mode) c.new-parts.ensures))
    c.end.ensures.first c.end.ensures.declarations c.end.ensures.ids
