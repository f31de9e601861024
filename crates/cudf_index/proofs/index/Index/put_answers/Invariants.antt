use Rattle.std.proofs.Common.{take}
use Rattle.cudf_index.specs.Working.Questions.{Answered}
use Rattle.cudf_index.proofs.index.Index.put_answers.Given as goal

abbrev pub invariant-loop-question : goal.invariant-loop-question
invariant-loop-question l = Answered l.fn.places.items (take l.question-index l.question-items) l.self l.asked l.places.items
