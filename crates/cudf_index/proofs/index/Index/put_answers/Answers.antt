use Rattle.std.proofs.Common.{arith}
use Rattle.cudf_index.proofs.QuestionLemmas.{none_asked, one_answered, all_answered}
use Rattle.cudf_index.proofs.index.Index.put_answers.Goals as goal

pub loop-question-init : goal.loop-question-init
loop-question-init c = none_asked c.args.places.now.items c.args.self.now

pub loop-question-preserved : goal.loop-question-preserved
loop-question-preserved c =
    one_answered c.args.places.now.items c.deref-question-items.result.now c.loop-question.question-index _ c.args.self.now _ _ c.loop-question-test.true
    (c.in_ok-asked.ensures _ _ c.loop-question.invariant)

pub returns : goal.returns
returns c =
    all_answered c.args.places.now.items c.args.questions.now.items c.sort_unstable_by.new.self.items c.deref-question-items.result.now c.loop-question.question-index c.args.self.now c.loop-question.asked c.loop-question.places.items
    c.sort_unstable_by.ensures.permutation c.deref-question-items.ensures.value (omega arith) c.loop-question.invariant
