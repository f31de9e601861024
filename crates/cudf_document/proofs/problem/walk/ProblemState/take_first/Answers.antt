use Rattle.std.proofs.Common.{[], refl, sym, ◌∙◌}
use Rattle.cudf_text.specs.Promises.Views.{stanza_view}
use Rattle.cudf_document.proofs.WalkLemmas.{IsKnown-head, required_none}
use Rattle.cudf_document.proofs.problem.walk.ProblemState.take_first.Goals as goal

pub returns-then-is_preamble-clause-known : goal.returns-then-is_preamble-clause-known
returns-then-is_preamble-clause-known c = λ ds so_far.
    IsKnown-head c.take_preamble.result c.args.mode c.args.self.now c.take_preamble.new.self (stanza_view c.args.stanza.now)
    (sym c.is_preamble.ensures ∙ c.if-is_preamble.true) ds so_far c.take_preamble.ensures.first c.take_preamble.ensures.ids c.take_preamble.ensures.requested

pub returns-else-is_preamble-clause-known : goal.returns-else-is_preamble-clause-known
returns-else-is_preamble-clause-known c = λ ds so_far.
    c.take_other.ensures.known [] refl ds (required_none c.args.mode) so_far

pub returns-else-is_preamble-clause-kept : goal.returns-else-is_preamble-clause-kept
returns-else-is_preamble-clause-kept c = λ keeps ds none kept. c.take_other.ensures.kept keeps [] ds none kept
