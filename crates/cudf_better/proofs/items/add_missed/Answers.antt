use Rattle.std.proofs.Common.{◌++◌, map, ap, ◌∙◌}
use Rattle.cudf_value.specs.Promises.Views.{clause_view}
use Rattle.cudf_index.specs.Satisfaction.{meets_clause_alone}
use Rattle.cudf_cnf.specs.Cnf.{is_in}
use Rattle.cudf_cnf.proofs.PlaceLemmas.{when}
use Rattle.cudf_better.proofs.PackageLemmas.{missed_put}
use Rattle.cudf_better.proofs.SourceLemmas.{small_places}
use Rattle.cudf_better.proofs.items.add_missed.Goals as goal

pub add_places-requires : goal.add_places-requires
add_places-requires c =
    let s = c.args.source.now in
    small_places s.problem.now.packages s.all (meets_clause_alone (clause_view c.args.clause.now)) c.deref.result.now s.every s.few (c.deref.ensures.value ∙ c.in_ok-all_satisfying_unless_at.ensures.all c.if-branch.false)

pub returns : goal.returns
returns c =
    let s = c.args.source.now in
    when c.push.result c.push.ensures
    (missed_put s.problem.now c.args.place (clause_view c.args.clause.now) c.in_ok-all_satisfying_unless_at.field-0 s.all c.args.items.now c.push.new.self c.positive_literal.result c.deref.result.now c.deref-2.result.now s.every
    c.if-branch.false c.in_ok-all_satisfying_unless_at.ensures.own c.positive_literal.ensures (c.deref.ensures.value ∙ c.in_ok-all_satisfying_unless_at.ensures.all c.if-branch.false)
    (c.deref-2.ensures.value ∙ c.in_ok-add_places.ensures ∙ ap (λ ls. ls ++ map is_in c.deref.result.now) c.new-none.ensures.items))
