use Rattle.std.proofs.Common.{sym, subst, ◌∙◌}
use Rattle.cudf_index.specs.Working.Questions.{Leaves}
use Rattle.cudf_index.proofs.FoundLemmas.{same_text}
use Rattle.cudf_index.proofs.QuestionLemmas.{all_left, named_left}
use Rattle.cudf_index.proofs.index.union.unanswered_part.Goals as goal

pub returns-in_default : goal.returns-in_default
returns-in_default c = all_left _ c.args.question.now

pub returns-then-eq : goal.returns-then-eq
returns-then-eq c =
    subst (λ asked. Leaves asked c.args.question.now c.unanswered_for_name.result) (sym c.in-Some.is)
    (named_left c.in-Some.asked c.args.question.now c.unanswered_for_name.result (same_text c.in-Some.asked.name.now c.args.question.now.name.now (sym c.eq.ensures ∙ c.if-eq.true)) c.unanswered_for_name.ensures)

pub returns : goal.returns
returns c = all_left _ c.args.question.now
