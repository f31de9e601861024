use Rattle.std.proofs.Common.{◌≡◌, ◌<◌, false, not, [], length, sym, ap, ◌∙◌, arith, refl}
use Rattle.std.specs.Prelude.{unwrap_or}
use Rattle.std.specs.FinSet as set
use Rattle.std.specs.List.{count_by}
use Rattle.std.proofs.lemmas.List.{length-map}
use Rattle.cudf_problem.specs.Promises.Views.{package_view}
use Rattle.cudf_index.specs.Satisfaction.{satisfies_clause}
use Rattle.cudf_referee.specs.Proposals.{Proposal, proposal}
use Rattle.cudf_referee.proofs.RecommendLemmas.{counted_held, counted_left_out, recommended_at, nothing, all_counted}
use Rattle.cudf_referee.proofs.counting.count_unsatisfied.Goals as goal
use Rattle.cudf_referee.proofs.counting.count_unsatisfied.Goals.{then-holds, else-holds}

pub loop-number-preserved : goal.loop-number-preserved
loop-number-preserved c =
    let problem = c.args.problem.now in
    let is = set.contains c.args.proposed.now in
    let s : Proposal = proposal problem (λ n. false) is [] in
    let i = c.loop-number.number in
    let long : length problem.packages ≡ length c.packages-number-end.result.now = sym (ap length c.packages-number-end.ensures.packages) ∙ length-map c.packages-number-end.result.now package_view in
    let inside : i < length problem.packages = omega (arith, long, c.loop-number-test.true) in
    elim c.if-holds.branch [
      | then-holds w ↦
          w.count-is ∙ counted_held s is problem.packages i nothing inside c.loop-number.count w.saturating_add-count.result w.unsatisfied.result
          (sym c.holds.ensures ∙ w.if-holds.true) c.loop-number.invariant
          (w.unsatisfied.ensures
          ∙ (λ j. count_by (λ clause. not (satisfies_clause (c.requires j) clause)) (unwrap_or (w.recommends.ensures j) []))
          ∙ ap (count_by (λ clause. not (satisfies_clause s.proposed clause))) (recommended_at problem s i nothing refl inside))
          w.saturating_add-count.ensures
      | else-holds w ↦ w.count-is ∙ counted_left_out s is problem.packages i nothing inside c.loop-number.count (sym c.holds.ensures ∙ w.if-holds.false) c.loop-number.invariant
    ]

pub returns : goal.returns
returns c = λ before.
    let problem = c.args.problem.now in
    let is = set.contains c.args.proposed.now in
    let long : length problem.packages ≡ length c.packages-number-end.result.now = sym (ap length c.packages-number-end.ensures.packages) ∙ length-map c.packages-number-end.result.now package_view in
    all_counted (proposal problem before is []) is problem.packages c.loop-number.number c.loop-number.count (omega (arith, long, c.loop-number-test.false)) c.loop-number.invariant
