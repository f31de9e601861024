use Rattle.std.proofs.Common.{◌||◌, sym, ap, ◌∙◌}
use Rattle.std.specs.Option.{option_or}
use Rattle.cudf_text.specs.Promises.Views.{stanza_view}
use Rattle.cudf_document.specs.Faults.{lesser}
use Rattle.cudf_document.specs.Working.Walks.{texts}
use Rattle.cudf_document.proofs.WalkLemmas.{IsKnown-next, none_before}
use Rattle.cudf_document.proofs.problem.walk.ProblemState.take_other.Goals as goal

pub returns-clause-known : goal.returns-clause-known
returns-clause-known c = λ before first ds required so_far.
    IsKnown-next c.args.ahead.mode (texts c.args.ahead.required.now) c.args.self.now _ before (stanza_view c.args.stanza.now) c.postmark_of-mark.result c.args.ahead.is_first c.place_fault-place.result c.in_ok-inside.inside c.misplaced_fault-misplaced.result
    first ds required so_far c.postmark_of-mark.ensures c.place_fault-place.ensures c.in_ok-inside.ensures.fault c.misplaced_fault-misplaced.ensures
    (c.keep_lesser.ensures ∙ (λ i. lesser (c.in_ok-inside.ensures.first i) ((c.or.ensures ∙ ap (option_or c.place_fault-place.result) c.lesser.ensures) i)))
    c.in_ok-inside.ensures.ids
    (c.either-self.ensures ∙ (λ i. c.is_request.ensures i || c.in_ok-inside.ensures.requested i))

pub returns-clause-first : goal.returns-clause-first
returns-clause-first c = λ none.
    none_before c.args.self.now.first (option_or c.place_fault-place.result (lesser c.in_ok-inside.inside c.misplaced_fault-misplaced.result))
    (sym (c.keep_lesser.ensures ∙ (λ i. lesser (c.in_ok-inside.ensures.first i) ((c.or.ensures ∙ ap (option_or c.place_fault-place.result) c.lesser.ensures) i))) ∙ none)

pub returns-clause-kept : goal.returns-clause-kept
returns-clause-kept c = λ keeps before ds none so_far. c.in_ok-inside.ensures.kept keeps before (sym c.postmark_of-mark.ensures) ds none so_far
