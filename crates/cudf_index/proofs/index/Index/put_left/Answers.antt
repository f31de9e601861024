use Rattle.std.proofs.Common.{subst}
use Rattle.std.specs.FinSet as set
use Rattle.cudf_index.specs.Satisfaction.{members}
use Rattle.cudf_index.specs.Working.Questions.{Leaves}
use Rattle.cudf_index.proofs.ClauseLemmas.{row_gives}
use Rattle.cudf_index.proofs.QuestionLemmas.{nothing_more, more_there}
use Rattle.cudf_index.proofs.index.Index.put_left.Goals as goal

pub returns-in_default : goal.returns-in_default
returns-in_default c = λ old before so_far.
    nothing_more old before c.args.question.now c.args.self.now c.args.asked c.args.places.now.items so_far (subst (Leaves c.args.asked c.args.question.now) c.in_default.is c.unanswered_part.ensures)

pub returns : goal.returns
returns c = λ old before so_far.
    let v = c.args.question.now in
    more_there old before v c.args.self.now c.args.asked c.args.places.now.items so_far c.in-Some.wanted c.all.new.places.items c.sort_and_dedup_if_long.new.places.items (subst (Leaves c.args.asked v) c.in-Some.is c.unanswered_part.ensures)
    (row_gives c.in-Some.wanted v.name.now (members (set.contains c.self.inside.status) c.self.inside.problem.now.packages) c.args.self.now _ c.args.places.now.items c.all.new.places.items c.self.view_is (c.self.invariant.0 v.name.now).1 c.in_ok-all.ensures)
    c.sort_and_dedup_if_long.ensures.same
