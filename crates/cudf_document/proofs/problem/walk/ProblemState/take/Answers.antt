use Rattle.std.proofs.Common.{sym, ◌∙◌}
use Rattle.cudf_text.specs.Promises.Views.{stanza_view}
use Rattle.cudf_document.specs.Working.Kept.{AreParts}
use Rattle.cudf_document.proofs.WalkLemmas.{IsSoFar-first, IsSoFar-next}
use Rattle.cudf_document.proofs.problem.walk.ProblemState.take.Goals as goal

pub returns-then-ahead : goal.returns-then-ahead
returns-then-ahead c = λ keeps before first required so_far.
    IsSoFar-first c.take_first.result c.args.ahead.mode (λ ss. AreParts keeps ss c.args.kept.now) (λ ss. AreParts keeps ss c.take_first.new.kept)
    c.args.self.now c.take_first.new.self before (stanza_view c.args.stanza.now)
    (sym c.if-ahead.true ∙ first) so_far
    c.take_first.ensures.known c.take_first.ensures.declared c.take_first.ensures.first (c.take_first.ensures.kept keeps)

pub returns : goal.returns
returns c = λ keeps before first required so_far.
    IsSoFar-next c.take_other.result c.args.ahead.mode (λ ss. AreParts keeps ss c.args.kept.now) (λ ss. AreParts keeps ss c.take_other.new.kept)
    c.args.self.now c.take_other.new.self before (stanza_view c.args.stanza.now)
    (sym c.if-ahead.false ∙ first) so_far
    (c.take_other.ensures.known before first so_far.declared_are required so_far.known)
    c.take_other.ensures.declarations c.take_other.ensures.first (c.take_other.ensures.kept keeps before so_far.declared_are)
