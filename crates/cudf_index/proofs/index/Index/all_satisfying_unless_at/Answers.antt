use Rattle.std.proofs.Common.{◌||◌, List, ℕ, ap, sym, ◌∙◌}
use Rattle.std.specs.FinSet as set
use Rattle.cudf_value.specs.Promises.Views.{clause_view}
use Rattle.cudf_index.specs.Satisfaction.{meets_clause_alone}
use Rattle.cudf_index.specs.Working.Places.{has, passes_at}
use Rattle.cudf_index.proofs.PlaceLemmas.{rising_where}
use Rattle.cudf_index.proofs.ClauseLemmas.{adds_else, own_found, passes_then}
use Rattle.cudf_index.proofs.QuestionLemmas.{none_there}
use Rattle.cudf_index.proofs.index.Index.all_satisfying_unless_at.Goals as goal

pub returns-then-branch-clause-own : goal.returns-then-branch-clause-own
returns-then-branch-clause-own c =
    let test = meets_clause_alone (clause_view c.args.clause.now) in
    sym (passes_then _ _ _ _ _ _ _ _ c.if-branch.true c.in_ok-put_or_ask.ensures)
    ∙ ap (λ b. b || passes_at test c.args.own c.args.self.now) (none_there _ _ c.args.self.now c.args.own c.clear.ensures.items c.new-questions.ensures.items)
    ∙ own_found test c.args.own c.args.self.now

pub returns-clause-own : goal.returns-clause-own
returns-clause-own c =
    let test = meets_clause_alone (clause_view c.args.clause.now) in
    c.contains.ensures.value ∙ ap (λ (ns : List ℕ). has ns c.args.own) c.deref.ensures.value ∙ c.sort_and_dedup.ensures.same c.args.own
    ∙ c.in_ok-put_answers.ensures c.args.own ∙ adds_else _ _ _ _ _ _ _ _ c.if-branch.false c.in_ok-put_or_ask.ensures c.args.own
    ∙ ap (λ b. b || passes_at test c.args.own c.args.self.now) (none_there _ _ c.args.self.now c.args.own c.clear.ensures.items c.new-questions.ensures.items)
    ∙ own_found test c.args.own c.args.self.now

pub returns-clause-all : goal.returns-clause-all
returns-clause-all c = λ _.
    let test = meets_clause_alone (clause_view c.args.clause.now) in
    rising_where test (set.contains c.self.inside.status) c.args.self.now c.self.inside.problem.now.packages c.sort_and_dedup.new.places.items c.self.view_is c.sort_and_dedup.ensures.rises
    (λ p. c.sort_and_dedup.ensures.same p ∙ c.in_ok-put_answers.ensures p ∙ adds_else _ _ _ _ _ _ _ _ c.if-branch.false c.in_ok-put_or_ask.ensures p
    ∙ ap (λ b. b || passes_at test p c.args.self.now) (none_there _ _ c.args.self.now p c.clear.ensures.items c.new-questions.ensures.items))
