use Rattle.std.proofs.Common.{◌≡◌, ◌<◌, ◌≤◌, [], length, sym, ap, ◌∙◌, arith}
use Rattle.std.specs.FinSet as set
use Rattle.std.proofs.lemmas.List.{length-map, take_all}
use Rattle.cudf_problem.specs.Promises.Views.{package_view}
use Rattle.std.specs.List.{count_by}
use Rattle.std.proofs.lemmas.List.FromFn.{length-enumerate_from}
use Rattle.cudf_referee.specs.Criteria.{is_touched, at_most_max, universe}
use Rattle.cudf_referee.specs.Proposals.{proposal}
use Rattle.cudf_referee.proofs.RecommendLemmas.{nothing}
use Rattle.cudf_referee.proofs.TouchedLemmas.{touched_yes, touched_no}
use Rattle.cudf_referee.proofs.counting.count_touched.Goals as goal
use Rattle.cudf_referee.proofs.counting.count_touched.Goals.{then-is_touched, else-is_touched}

pub loop-number-preserved : goal.loop-number-preserved
loop-number-preserved c =
    let problem = c.args.problem.now in
    let was = set.contains c.args.before.now in
    let is = set.contains c.args.proposed.now in
    let i = c.loop-number.number in
    let long : length problem.packages ≡ length c.packages-number-end.result.now = sym (ap length c.packages-number-end.ensures.packages) ∙ length-map c.packages-number-end.result.now package_view in
    let inside : i < length problem.packages = omega (arith, long, c.loop-number-test.true) in
    elim c.if-is_touched.branch [
      | then-is_touched w ↦ w.count-is ∙ touched_yes problem was is i (0, nothing) inside c.loop-number.count w.saturating_add-count.result (sym c.is_touched.ensures ∙ w.if-is_touched.true) c.loop-number.invariant w.saturating_add-count.ensures
      | else-is_touched w ↦ w.count-is ∙ touched_no problem was is i (0, nothing) inside c.loop-number.count (sym c.is_touched.ensures ∙ w.if-is_touched.false) c.loop-number.invariant
    ]

pub returns : goal.returns
returns c =
    let problem = c.args.problem.now in
    let s = proposal problem (set.contains c.args.before.now) (set.contains c.args.proposed.now) [] in
    let long : length problem.packages ≡ length c.packages-number-end.result.now = sym (ap length c.packages-number-end.ensures.packages) ∙ length-map c.packages-number-end.result.now package_view in
    let end : length (universe s) ≤ c.loop-number.number = omega (arith, long, c.loop-number-test.false, length-enumerate_from 1 problem.packages) in
    c.loop-number.invariant ∙ ap (λ xs. at_most_max (count_by (is_touched s) xs)) (take_all c.loop-number.number (universe s) end)
